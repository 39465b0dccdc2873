-- The laws.
use Rattle.std.proofs.Common.{◌≡◌, ℕ, zero, suc, ◌≤◌, List, [], ◌∷◌, refl, arith, ap, sym}
use mathlib.Core.Option.{some, some-injective, some-ne-none}
use lib.ListN.{get_elem?}
use Rattle.epoch_word.specs.declared.views.WordView.{WordView}
use Rattle.epoch_word.specs.Laws.{greatest_raised, WordIsGreatest, NoneHeardMore}

-- where each is at most n, so is the greatest
at_most : (first n : ℕ) (views : List WordView) → first ≤ n → ((j : ℕ) (v : WordView) → get_elem? views j ≡ some v → v.raised ≤ n) → greatest_raised first views ≤ n
at_most first n [] low each = low
at_most first n (v ∷ vs) low each = let a = each 0 v refl in let r = at_most first n vs low (λ j u e. each (suc j) u e) in omega arith

-- each is at most the greatest
at_least : (first : ℕ) (views : List WordView) (j : ℕ) (v : WordView) → get_elem? views j ≡ some v → v.raised ≤ greatest_raised first views
at_least first [] j v e = absurd (some-ne-none v (sym e))
at_least first (u ∷ vs) zero v e = let same : u.raised ≡ v.raised = ap (λ (z : WordView). z.raised) (some-injective u v e) in omega arith
at_least first (u ∷ vs) (suc j) v e = let r = at_least first vs j v e in omega arith

pub is_greatest : WordIsGreatest
is_greatest first s r =
    let (j, v, there, is, _) = r.some_view in
    let a = at_least first s.views j v there in
    let b = at_most first _ s.views r.low (λ i u e. (r.each i u e).raised) in
    omega arith

pub none_heard_more : NoneHeardMore
none_heard_more first s r j v e = (r.each j v e).heard
