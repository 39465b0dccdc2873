use Rattle.std.proofs.Common.{◌≡◌, ℕ, ◌+◌, ◌<◌, ◌≤◌, true, false, cond, Option, None, Some, List, length, get_or, slice_get, IfSome, ltb, inl, inr, refl, sym, subst, arith, ◌∙◌}
use Rattle.std.proofs.lemmas.Option.{slice_get-get_or}
use Rattle.std.proofs.lemmas.Grind.{common_steps}
use Rattle.expiry_wheel.specs.declared.pair.Pair.{Pair}
use Rattle.expiry_wheel.specs.Firsts.{AllFrom, HasDue, IsUpTo, is_due_from, lesser, with_due}
use Rattle.expiry_wheel.proofs.Maps.{same_or_not}
use Rattle.expiry_wheel.proofs.plain.first_due.Goals as goal

some_same : (p q : Pair) → Some p ≡ Some q → p ≡ q
some_same p q e = cc

-- the lesser id is one of the two, and at most each
lesser_has : (P : ℕ → Type 0) (best : Option ℕ) (id : ℕ) → IfSome best P → P id → P (lesser best id)
lesser_has P None id before here = here
lesser_has P (Some a) id before here = elim (ltb a id) as (λ v. P (cond v a id)) [ true ↦ before | false ↦ here ]

lesser_most : (best : Option ℕ) (id q : ℕ) → IsUpTo best q → lesser best id ≤ q
lesser_most None id q h = absurd h
lesser_most (Some a) id q h = elim (ltb a id) as (λ v. ltb a id ≡ v → cond v a id ≤ q) [
  | true ↦ λ e. h
  | false ↦ λ e. grind (arith, common_steps)
] refl

lesser_own : (best : Option ℕ) (id : ℕ) → lesser best id ≤ id
lesser_own None id = omega arith
lesser_own (Some a) id = elim (ltb a id) as (λ v. ltb a id ≡ v → cond v a id ≤ id) [
  | true ↦ λ e. grind (arith, common_steps)
  | false ↦ λ e. omega arith
] refl

-- one pair more
found_more : (pairs : List Pair) (from m i : ℕ) (best : Option ℕ) (p : Pair) → slice_get pairs i ≡ Some p → IfSome best (λ (id : ℕ). HasDue pairs from m id) → IfSome (with_due from m best p) (λ (id : ℕ). HasDue pairs from m id)
found_more pairs from m i best p stands before = elim (is_due_from from m p) as (λ v. is_due_from from m p ≡ v → IfSome (cond v (Some (lesser best p.id)) best) (λ (id : ℕ). HasDue pairs from m id)) [
  | true ↦ λ e. lesser_has (λ (id : ℕ). HasDue pairs from m id) best p.id before (record { place = i; pair = p; stands = stands; due = e; is = refl })
  | false ↦ λ e. before
] refl

up_to_more : (from m : ℕ) (best : Option ℕ) (p : Pair) (q : ℕ) → IsUpTo best q → IsUpTo (with_due from m best p) q
up_to_more from m best p q h = elim (is_due_from from m p) as (λ v. IsUpTo (cond v (Some (lesser best p.id)) best) q) [
  | true ↦ lesser_most best p.id q h
  | false ↦ h
]

up_to_own : (from m : ℕ) (best : Option ℕ) (p : Pair) → is_due_from from m p ≡ true → IsUpTo (with_due from m best p) p.id
up_to_own from m best p due = subst (λ v. IsUpTo (cond v (Some (lesser best p.id)) best) p.id) (sym due) (lesser_own best p.id)

first_more : (pairs : List Pair) (from m i : ℕ) (best : Option ℕ) (p : Pair) → slice_get pairs i ≡ Some p → AllFrom pairs from m best i → AllFrom pairs from m (with_due from m best p) (i + 1)
first_more pairs from m i best p stands before k r low at due = elim (same_or_not k i) [
  | inl e ↦
      let same : p ≡ r = some_same p r (sym stands ∙ subst (λ n. slice_get pairs n ≡ Some r) e at) in
      subst (λ (x : Pair). is_due_from from m x ≡ true → IsUpTo (with_due from m best p) x.id) same (up_to_own from m best p) due
  | inr ne ↦ up_to_more from m best p r.id (before k r (omega (arith, low, ne)) at due)
]

pub loop-pair-preserved : goal.loop-pair-preserved
loop-pair-preserved c =
    let at : c.loop-pair.pair-index < length c.args.pairs.now = c.loop-pair-test.true in
    let item : Pair = get_or c.args.pairs.now c.loop-pair.pair-index (record { expiry = 0; id = 0 }) in
    let stands : slice_get c.args.pairs.now c.loop-pair.pair-index ≡ Some item = slice_get-get_or c.args.pairs.now c.loop-pair.pair-index (record { expiry = 0; id = 0 }) at in
    rw c.with_due-best.ensures (record {
      found = found_more c.args.pairs.now c.args.from c.args.m c.loop-pair.pair-index c.loop-pair.best item stands c.loop-pair.invariant.found;
      first = first_more c.args.pairs.now c.args.from c.args.m c.loop-pair.pair-index c.loop-pair.best item stands c.loop-pair.invariant.first;
    })
