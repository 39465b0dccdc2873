use Rattle.std.proofs.Common.{◌≡◌, ◌≤◌, List, map, length, ℕ, subst, arith}
use Rattle.std.specs.Prelude.{option_map, slice_get}
use Rattle.std.specs.Borrow.{Bor}
use Rattle.client_commands.specs.Commands.{IsOnly}
use Rattle.client_words.specs.Filters.{AreFilters}
use Rattle.client_words.specs.Mores.{IsThirdAt}
use Rattle.client_words.proofs.ListLemmas.{as_long}
use Rattle.client_words.proofs.MoreLemmas.{more_by}
use Rattle.client_words.proofs.more.more_in.Goals as goal

abbrev texts : List (Bor (List ℕ)) → List (List ℕ)
texts items = map (λ s. s.now) items

pub returns : goal.returns
returns c =
    let third : option_map (λ s. s.now) c.first_of.result ≡ slice_get (texts c.in_ok-thirds.thirds.items) 0 = rw c.deref-4.ensures.value at c.first_of.ensures in
    more_by _ _ (texts c.in_ok-digits.digits.items) (texts c.in_ok-files.files.items) (texts c.in_ok-thirds.thirds.items) (texts c.in_ok-texts.texts.items)
    c.nonce_given.result c.third_at.result _ c.more_with.result c.in_ok-digits.ensures c.in_ok-files.ensures c.in_ok-thirds.ensures c.in_ok-texts.ensures
    (rw (c.deref-2.ensures.value, c.deref-3.ensures.value) at c.nonce_given.ensures)
    (subst (λ o. IsOnly (IsThirdAt o) c.third_at.result) third c.third_at.ensures)
    (rw c.deref.ensures.value at c.in_ok-filters.ensures)
    (omega (arith, c.if-len-gt1.false, c.len-2.ensures, as_long (λ (s : Bor (List ℕ)). s.now) c.in_ok-thirds.thirds.items))
    (omega (arith, c.if-len-gt-MOST_FILTERS.false, c.len.ensures, as_long (λ (s : Bor (List ℕ)). s.now) c.in_ok-texts.texts.items))
    c.more_with.ensures
