use Rattle.std.proofs.Common.{◌≡◌, ◌≢◌, ℕ, Some, List, slice_get, sym, ap, ◌∙◌, subst, is_some}
use Rattle.std.specs.FinMap as map
use Rattle.expiry_wheel.specs.declared.pair.Pair.{Pair}
use Rattle.expiry_wheel.specs.Pairs.{expiries_of, IdsDiffer}
use Rattle.expiry_wheel.proofs.Maps.{none_removed}
use Rattle.expiry_wheel.proofs.Pairs.{present_at, absent_for, IdsDiffer-remove, expiries-remove}
use Rattle.expiry_wheel.proofs.plain.PlainWheel.remove.Goals as goal

pub invariant_of-self : goal.invariant_of-self
invariant_of-self c =
    let at = subst (λ (d : List Pair). slice_get d c.in-Some.i ≡ Some (record { expiry = c.in-Some.ensures.found.0; id = c.args.id })) c.deref.ensures.value c.in-Some.ensures.found.1 in
    subst IdsDiffer (sym c.remove.ensures.items) (IdsDiffer-remove c.self.inside.pairs.items c.in-Some.i _ c.self.invariant at)

pub returns-in-Some-clause-found : goal.returns-in-Some-clause-found
returns-in-Some-clause-found c =
    let at = subst (λ (d : List Pair). slice_get d c.in-Some.i ≡ Some (record { expiry = c.in-Some.ensures.found.0; id = c.args.id })) c.deref.ensures.value c.in-Some.ensures.found.1 in
    sym (ap (λ m. map.contains_key m c.args.id) (sym c.self.view_is) ∙ ap is_some (present_at c.self.inside.pairs.items c.in-Some.i _ c.args.id c.self.invariant at))

pub returns-in-Some-clause-removed : goal.returns-in-Some-clause-removed
returns-in-Some-clause-removed c =
    let at = subst (λ (d : List Pair). slice_get d c.in-Some.i ≡ Some (record { expiry = c.in-Some.ensures.found.0; id = c.args.id })) c.deref.ensures.value c.in-Some.ensures.found.1 in
    ap expiries_of c.remove.ensures.items ∙ expiries-remove c.self.inside.pairs.items c.in-Some.i _ c.self.invariant at ∙ ap (λ m. map.remove m c.args.id) c.self.view_is

pub returns-in-None-clause-found : goal.returns-in-None-clause-found
returns-in-None-clause-found c =
    let none = subst (λ (d : List Pair). (i : ℕ) (p : Pair) → slice_get d i ≡ Some p → p.id ≢ c.args.id) c.deref.ensures.value c.in-None.ensures.none in
    sym (ap (λ m. map.contains_key m c.args.id) (sym c.self.view_is) ∙ ap is_some (absent_for c.self.inside.pairs.items c.args.id none))

pub returns-in-None-clause-removed : goal.returns-in-None-clause-removed
returns-in-None-clause-removed c =
    let none = subst (λ (d : List Pair). (i : ℕ) (p : Pair) → slice_get d i ≡ Some p → p.id ≢ c.args.id) c.deref.ensures.value c.in-None.ensures.none in
    none_removed c.args.self.now c.args.id (ap (λ m. map.get m c.args.id) (sym c.self.view_is) ∙ absent_for c.self.inside.pairs.items c.args.id none)
