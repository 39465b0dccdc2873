use Rattle.std.proofs.Common.{◌≡◌, ◌++◌, [], length, ◌∙◌, ap, arith}
use Rattle.shard_book.specs.KeptTexts.{KeptRecords}
use Rattle.shard_book.proofs.KeptLemmas.{shows_all}
use Rattle.shard_book.proofs.texts.KeptTexts.confirm.Goals as goal

pub invariant_of-self : goal.invariant_of-self
invariant_of-self c =
    let octets = c.self.inside.octets in
    let whole : c.len-self-inside.result ≡ length octets.items = omega (arith, c.len-self-inside.ensures, octets.ok) in
    (shows_all octets.items c.self.inside.place c.self.invariant c.len-self-inside.result whole).stands

pub returns : goal.returns
returns c =
    let octets = c.self.inside.octets in
    let whole : c.len-self-inside.result ≡ length octets.items = omega (arith, c.len-self-inside.ensures, octets.ok) in
    (shows_all octets.items c.self.inside.place c.self.invariant c.len-self-inside.result whole).view ∙ ap (λ (k : KeptRecords). record { sure = k.sure ++ k.added; added = [] }) c.self.view_is
