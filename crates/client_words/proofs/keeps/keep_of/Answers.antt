use Rattle.std.proofs.Common.{◌≡◌, List, ℕ, codes, false, map, rules, Global}
use Rattle.std.specs.Prelude.{string_bytes}
use Rattle.std.specs.List.{list_any}
use Rattle.client_words.specs.Asks.{begins}
use Rattle.client_words.proofs.AskLemmas.{keep_by}
use Rattle.client_words.proofs.ListLemmas.{rest_of}
use Rattle.client_words.proofs.keeps.keep_of.Goals as goal

pub returns : goal.returns
returns c =
    let named : string_bytes {Z = Global} c.name-item.result ≡ codes "keep" = search rules in
    let free : list_any (begins (codes "--tries")) (map (string_bytes {Z = Global}) (rest_of c.args.words.now)) ≡ false = search rules in
    keep_by (string_bytes {Z = Global}) c.args.words.now c.name-item.result _ _ _ c.keep_with.result c.in-len1-up.len_at_least c.name-item.is named free
    c.in_ok-command.ensures c.in_ok-more.ensures c.keep_with.ensures
