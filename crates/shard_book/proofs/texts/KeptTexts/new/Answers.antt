use Rattle.std.proofs.Common.{[], List, ℕ, length, sym, subst, ap}
use Rattle.journal_sides.specs.Texts.{AreTexts}
use Rattle.journal_sides.proofs.RecordTextLaws.{no_texts}
use Rattle.shard_book.proofs.KeptLemmas.{shows_whole}
use Rattle.shard_book.proofs.texts.KeptTexts.new.Goals as goal

pub invariant_of-result : goal.invariant_of-result
invariant_of-result c =
    let octets = c.new-octets.result.items in
    let empty = c.new-octets.ensures.items in
    (shows_whole octets 0 [] (subst (λ (l : List ℕ). AreTexts l []) (sym empty) no_texts) (sym (ap length empty))).stands

pub returns : goal.returns
returns c =
    let octets = c.new-octets.result.items in
    let empty = c.new-octets.ensures.items in
    (shows_whole octets 0 [] (subst (λ (l : List ℕ). AreTexts l []) (sym empty) no_texts) (sym (ap length empty))).view
