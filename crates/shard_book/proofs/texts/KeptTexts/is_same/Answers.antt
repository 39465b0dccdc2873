use Rattle.std.proofs.Common.{◌≡◌, [], take, drop, sym, ◌∙◌, ap}
use Rattle.journal_sides.specs.Texts.{records_in}
use Rattle.shard_book.specs.KeptTexts.{KeptRecords}
use Rattle.shard_book.proofs.KeptLemmas.{kept_same, same_kept}
use Rattle.shard_book.proofs.texts.KeptTexts.is_same.Goals as goal

pub returns : goal.returns
returns c =
    let a = c.self.inside.octets.items in
    let i = c.self.inside.place in
    let b = c.other.inside.octets.items in
    let j = c.other.inside.place in
    let none_a : records_in (drop i a) ≡ [] = ap (λ (k : KeptRecords). k.added) c.self.view_is ∙ c.requires.none in
    let none_b : records_in (drop j b) ≡ [] = ap (λ (k : KeptRecords). k.added) c.other.view_is ∙ c.requires.other in
    let sure_a : records_in (take i a) ≡ c.args.self.now.sure = ap (λ (k : KeptRecords). k.sure) c.self.view_is in
    let sure_b : records_in (take j b) ≡ c.args.other.now.sure = ap (λ (k : KeptRecords). k.sure) c.other.view_is in (
      λ t. sym sure_a ∙ same_kept a b i j c.self.invariant c.other.invariant none_a none_b (sym c.deref.ensures.value ∙ c.are_same.ensures.0 t ∙ c.deref-2.ensures.value) ∙ sure_b,
      λ e. c.are_same.ensures.1 (c.deref.ensures.value ∙ kept_same a b i j c.self.invariant c.other.invariant none_a none_b (sure_a ∙ e ∙ sym sure_b) ∙ sym c.deref-2.ensures.value),
    )
