use Rattle.std.proofs.Common.{◌≡◌, ◌≢◌, ◌<◌, ℕ, Some, List, slice_get, sym, ap, ◌∙◌, subst}
use Rattle.std.specs.FinMap as map
use Rattle.std.proofs.lemmas.Option.{slice_get_within}
use Rattle.expiry_wheel.specs.declared.pair.Pair.{Pair}
use Rattle.expiry_wheel.specs.Pairs.{expiries_of, IdsDiffer}
use Rattle.expiry_wheel.proofs.Pairs.{none_found, IdsDiffer-push, IdsDiffer-set, expiries-push, expiries-set}
use Rattle.expiry_wheel.proofs.plain.PlainWheel.put.Goals as goal

pub index_mut-requires : goal.index_mut-requires
index_mut-requires c = subst (λ n. c.in-Some.i < n) c.deref.ensures.len (slice_get_within c.deref.result.now c.in-Some.i _ c.in-Some.ensures.found.1)

pub invariant_of-self-2 : goal.invariant_of-self-2
invariant_of-self-2 c =
    let at = subst (λ (d : List Pair). slice_get d c.in-Some.i ≡ Some (record { expiry = c.in-Some.ensures.found.0; id = c.args.id })) c.deref.ensures.value c.in-Some.ensures.found.1 in
    IdsDiffer-set c.self.inside.pairs.items c.in-Some.i (record { expiry = c.in-Some.ensures.found.0; id = c.args.id }) c.args.expiry c.self.invariant at

pub returns-clause-ok : goal.returns-clause-ok
returns-clause-ok c =
    let at = subst (λ (d : List Pair). slice_get d c.in-Some.i ≡ Some (record { expiry = c.in-Some.ensures.found.0; id = c.args.id })) c.deref.ensures.value c.in-Some.ensures.found.1 in
    expiries-set c.self.inside.pairs.items c.in-Some.i (record { expiry = c.in-Some.ensures.found.0; id = c.args.id }) c.args.expiry c.self.invariant at
    ∙ ap (λ m. map.insert m c.args.id c.args.expiry) c.self.view_is

pub invariant_of-self-in_default : goal.invariant_of-self-in_default
invariant_of-self-in_default c =
    let none = subst (λ (d : List Pair). (i : ℕ) (p : Pair) → slice_get d i ≡ Some p → p.id ≢ c.args.id) c.deref.ensures.value c.in_default.ensures.none in
    subst IdsDiffer (sym c.in_ok-push.ensures.items) (IdsDiffer-push c.self.inside.pairs.items (record { expiry = c.args.expiry; id = c.args.id }) c.self.invariant (none_found _ _ none))

pub returns-in_default-clause-ok : goal.returns-in_default-clause-ok
returns-in_default-clause-ok c =
    let none = subst (λ (d : List Pair). (i : ℕ) (p : Pair) → slice_get d i ≡ Some p → p.id ≢ c.args.id) c.deref.ensures.value c.in_default.ensures.none in
    ap expiries_of c.in_ok-push.ensures.items ∙ expiries-push c.self.inside.pairs.items (record { expiry = c.args.expiry; id = c.args.id }) (none_found _ _ none)
    ∙ ap (λ m. map.insert m c.args.id c.args.expiry) c.self.view_is
