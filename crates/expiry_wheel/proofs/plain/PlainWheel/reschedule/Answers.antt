use Rattle.std.proofs.Common.{◌≡◌, ◌≢◌, ◌<◌, ℕ, Some, List, slice_get, sym, ap, ◌∙◌, subst, is_some}
use Rattle.std.specs.FinMap as map
use Rattle.std.proofs.lemmas.Option.{slice_get_within}
use Rattle.expiry_wheel.specs.declared.pair.Pair.{Pair}
use Rattle.expiry_wheel.proofs.Pairs.{IdsDiffer-set, expiries-set, present_at, absent_for}
use Rattle.expiry_wheel.proofs.plain.PlainWheel.reschedule.Goals as goal

pub index_mut-requires : goal.index_mut-requires
index_mut-requires c = subst (λ n. c.in-Some.i < n) c.deref.ensures.len (slice_get_within c.deref.result.now c.in-Some.i _ c.in-Some.ensures.found.1)

pub invariant_of-self : goal.invariant_of-self
invariant_of-self c =
    let at = subst (λ (d : List Pair). slice_get d c.in-Some.i ≡ Some (record { expiry = c.in-Some.ensures.found.0; id = c.args.id })) c.deref.ensures.value c.in-Some.ensures.found.1 in
    IdsDiffer-set c.self.inside.pairs.items c.in-Some.i (record { expiry = c.in-Some.ensures.found.0; id = c.args.id }) c.args.expiry c.self.invariant at

pub returns-clause-found : goal.returns-clause-found
returns-clause-found c =
    let at = subst (λ (d : List Pair). slice_get d c.in-Some.i ≡ Some (record { expiry = c.in-Some.ensures.found.0; id = c.args.id })) c.deref.ensures.value c.in-Some.ensures.found.1 in
    sym (ap (λ m. map.contains_key m c.args.id) (sym c.self.view_is) ∙ ap is_some (present_at c.self.inside.pairs.items c.in-Some.i _ c.args.id c.self.invariant at))

pub returns-clause-moved : goal.returns-clause-moved
returns-clause-moved c =
    let at = subst (λ (d : List Pair). slice_get d c.in-Some.i ≡ Some (record { expiry = c.in-Some.ensures.found.0; id = c.args.id })) c.deref.ensures.value c.in-Some.ensures.found.1 in
    expiries-set c.self.inside.pairs.items c.in-Some.i (record { expiry = c.in-Some.ensures.found.0; id = c.args.id }) c.args.expiry c.self.invariant at
    ∙ ap (λ m. map.insert m c.args.id c.args.expiry) c.self.view_is

pub returns-in_default-clause-found : goal.returns-in_default-clause-found
returns-in_default-clause-found c =
    let none = subst (λ (d : List Pair). (i : ℕ) (p : Pair) → slice_get d i ≡ Some p → p.id ≢ c.args.id) c.deref.ensures.value c.in_default.ensures.none in
    sym (ap (λ m. map.contains_key m c.args.id) (sym c.self.view_is) ∙ ap is_some (absent_for c.self.inside.pairs.items c.args.id none))
