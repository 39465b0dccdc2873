use Rattle.std.proofs.Common.{◌≡◌, ℕ, ◌+◌, ◌<◌, Option, Some, List, length, get_or, slice_get, Contains, IfSome, inl, inr, sym, subst, arith, below_more}
use Rattle.std.proofs.lemmas.Option.{slice_get-get_or, slice_get_past, get_or_from_slice_get}
use Rattle.expiry_wheel.specs.declared.pair.Pair.{Pair}
use Rattle.expiry_wheel.specs.Order.{IsNoLater, sooner}
use Rattle.expiry_wheel.proofs.Maps.{below_or_not}
use Rattle.expiry_wheel.proofs.Order.{IsNoLater-sooner, IsNoLater-trans, sooner-one}
use Rattle.expiry_wheel.proofs.plain.soonest.Goals as goal

-- one more of them
present_more : (pairs : List Pair) (best : Option Pair) (p : Pair) → IfSome best (Contains pairs) → Contains pairs p → IfSome (sooner best (Some p)) (Contains pairs)
present_more pairs best p before here = elim (sooner-one best (Some p)) [
  | inl e ↦ subst (λ (o : Option Pair). IfSome o (Contains pairs)) (sym e) before
  | inr e ↦ subst (λ (o : Option Pair). IfSome o (Contains pairs)) (sym e) here
]

first_more : (pairs : List Pair) (best : Option Pair) (i : ℕ) (p : Pair) → slice_get pairs i ≡ Some p → ((k : ℕ) → k < i → IsNoLater best (slice_get pairs k)) → (k : ℕ) → k < i + 1 → IsNoLater (sooner best (Some p)) (slice_get pairs k)
first_more pairs best i p at first = below_more (λ k. IsNoLater (sooner best (Some p)) (slice_get pairs k)) i
    (λ k h. IsNoLater-trans (sooner best (Some p)) best (slice_get pairs k) (IsNoLater-sooner best (Some p)).0 (first k h))
    (subst (λ (o : Option Pair). IsNoLater (sooner best (Some p)) o) (sym at) (IsNoLater-sooner best (Some p)).1)

pub loop-pair-preserved : goal.loop-pair-preserved
loop-pair-preserved c =
    let at : c.loop-pair.pair-index < length c.args.pairs.now = c.loop-pair-test.true in
    let item : Pair = get_or c.args.pairs.now c.loop-pair.pair-index (record { expiry = 0; id = 0 }) in
    let stands : slice_get c.args.pairs.now c.loop-pair.pair-index ≡ Some item = slice_get-get_or c.args.pairs.now c.loop-pair.pair-index (record { expiry = 0; id = 0 }) at in
    rw c.sooner-best.ensures (record {
      present = present_more c.args.pairs.now c.loop-pair.best item c.loop-pair.invariant.present (c.loop-pair.pair-index, at, get_or_from_slice_get c.args.pairs.now c.loop-pair.pair-index item item stands);
      first = first_more c.args.pairs.now c.loop-pair.best c.loop-pair.pair-index item stands c.loop-pair.invariant.first;
    })

-- an index is of one so far, or past the end
pub returns-clause-first : goal.returns-clause-first
returns-clause-first c i = elim (below_or_not i (length c.args.pairs.now)) [
  | inl h ↦ c.loop-pair.invariant.first i (omega arith)
  | inr h ↦ subst (λ (o : Option Pair). IsNoLater c.loop-pair.best o) (sym (slice_get_past _ i h)) tt
]
