use Rattle.std.proofs.Common.{ℕ, ◌<◌, ◌≤◌, List, subst, arith}
use Rattle.expiry_wheel.specs.Moments.{kept_at, IsFirstIn}
use Rattle.expiry_wheel.proofs.Wheels.{first_seen, none_seen, past_none}
use Rattle.expiry_wheel.proofs.wheel.Wheel.first_due.Goals as goal

pub returns-then-from-ge-IDS-clause-none : goal.returns-then-from-ge-IDS-clause-none
returns-then-from-ge-IDS-clause-none g c id expiry found after =
    let low = past_none c.self.inside.moments.items c.self.inside.leasts c.args.self.now id expiry c.self.view_is c.self.invariant found in
    absurd (omega (arith, low, after, c.if-from-ge-IDS.true))

pub returns-in_default-clause-none : goal.returns-in_default-clause-none
returns-in_default-clause-none g c =
    let none = subst (λ n. (id : ℕ) → c.args.from ≤ id → id < 131072 → n < kept_at c.self.inside.moments.items id) c.latest.ensures.latest
    (subst (λ (xs : List ℕ). (id : ℕ) → c.args.from ≤ id → id < 131072 → c.latest.result < kept_at xs id) c.deref.ensures.value c.in_default.ensures.none) in
    none_seen c.self.inside.moments.items c.self.inside.leasts c.args.self.now c.args.from c.args.m c.self.view_is c.self.invariant (omega arith) none

pub returns-clause-first : goal.returns-clause-first
returns-clause-first g c =
    let first = subst (λ n. IsFirstIn c.self.inside.moments.items c.args.from n c.in-Some.id) c.latest.ensures.latest
    (subst (λ (xs : List ℕ). IsFirstIn xs c.args.from c.latest.result c.in-Some.id) c.deref.ensures.value c.in-Some.ensures.found) in
    first_seen c.self.inside.moments.items c.self.inside.leasts c.args.self.now c.args.from c.args.m c.in-Some.id c.self.view_is c.self.invariant (omega arith) first
