use Rattle.std.proofs.Common.{ℕ, ◌<◌, List, subst, arith}
use Rattle.expiry_wheel.specs.Moments.{kept_at, IsNextIn}
use Rattle.expiry_wheel.proofs.Wheels.{next_seen, none_seen}
use Rattle.expiry_wheel.proofs.wheel.Wheel.next.Goals as goal

pub returns-in_default-clause-none : goal.returns-in_default-clause-none
returns-in_default-clause-none g c id expiry found =
    let none = subst (λ n. (id : ℕ) → id < 131072 → n < kept_at c.self.inside.moments.items id) c.latest.ensures.latest
    (subst (λ (xs : List ℕ). (id : ℕ) → id < 131072 → c.latest.result < kept_at xs id) c.deref.ensures.value c.in_default.ensures.none) in
    none_seen c.self.inside.moments.items c.self.inside.leasts c.args.self.now 0 c.args.m c.self.view_is c.self.invariant (omega arith) (λ id from low. none id low) id expiry found (omega arith)

pub returns-clause-next : goal.returns-clause-next
returns-clause-next g c =
    let next = subst (λ n. IsNextIn c.self.inside.moments.items n c.in-Some.id) c.latest.ensures.latest
    (subst (λ (xs : List ℕ). IsNextIn xs c.latest.result c.in-Some.id) c.deref.ensures.value c.in-Some.ensures.next) in
    next_seen c.self.inside.moments.items c.self.inside.leasts c.args.self.now c.args.m c.in-Some.id c.self.view_is c.self.invariant (omega arith) next
