use Rattle.std.proofs.Common.{ℕ, true, false, ap, ◌∙◌, subst}
use Rattle.std.specs.Ordering.{nat_cmp}
use Rattle.std.specs.BTreeMap.{BTreeMap, get}
use Rattle.ordered_index.specs.MapSteps.{Removes}
use Rattle.ordered_index.specs.Slots.{lease_at, leases_of}
use Rattle.ordered_index.proofs.SlotCalls.{lease-there, looked-up, none-taken, none-there, none-value, order-there, slot-there, taken, taken-value}
use Rattle.ordered_index.proofs.SlotMoments.{slot-low, taken-due}
use Rattle.ordered_index.proofs.slots.Slots.remove.Goals as goal

pub returns-then-is_none-clause-value : goal.returns-then-is_none-clause-value
returns-then-is_none-clause-value g c =
    let none = none-there c.self.inside.slots c.self.inside.order c.self.invariant.are c.args.number.now
    (looked-up c.find.result (lease_at c.self.inside.slots c.args.number.now) c.is_none.result true c.find.ensures c.is_none.ensures c.if-is_none.true) in
    none-value c.self.inside.slots c.self.inside.order c.self.invariant.are c.args.number.now none
    ∙ ap (λ (m : BTreeMap ℕ g.row.L.Denot). get nat_cmp m c.args.number.now) c.self.view_is

pub returns-then-is_none-clause-removed : goal.returns-then-is_none-clause-removed
returns-then-is_none-clause-removed g c =
    let none = none-there c.self.inside.slots c.self.inside.order c.self.invariant.are c.args.number.now
    (looked-up c.find.result (lease_at c.self.inside.slots c.args.number.now) c.is_none.result true c.find.ensures c.is_none.ensures c.if-is_none.true) in
    subst (λ (m : BTreeMap ℕ g.row.L.Denot). Removes nat_cmp m m c.args.number.now) c.self.view_is
    (none-taken c.self.inside.slots c.self.inside.order c.self.invariant.are c.args.number.now none)

pub remove-requires : goal.remove-requires
remove-requires g c =
    order-there c.self.inside.slots c.self.inside.order c.self.invariant.are c.args.number.now
    (looked-up c.find.result (lease_at c.self.inside.slots c.args.number.now) c.is_none.result false c.find.ensures c.is_none.ensures c.if-is_none.false)

pub tell_least-requires-clause-slot : goal.tell_least-requires-clause-slot
tell_least-requires-clause-slot g c = slot-low c.args.number.now

pub tell_least-requires-clause-all : goal.tell_least-requires-clause-all
tell_least-requires-clause-all g c = c.self.invariant.due.all

pub remove-lease-requires : goal.remove-lease-requires
remove-lease-requires g c =
    let there = looked-up c.find.result (lease_at c.self.inside.slots c.args.number.now) c.is_none.result false c.find.ensures c.is_none.ensures c.if-is_none.false in
    slot-there c.self.inside.slots c.self.inside.order c.self.invariant.are c.args.number.now (lease-there c.self.inside.slots c.self.inside.order c.self.invariant.are c.args.number.now there)

pub returns-clause-value : goal.returns-clause-value
returns-clause-value g c =
    let there = looked-up c.find.result (lease_at c.self.inside.slots c.args.number.now) c.is_none.result false c.find.ensures c.is_none.ensures c.if-is_none.false in
    taken-value c.self.inside.slots c.self.inside.order c.self.invariant.are c.args.number.now (lease-there c.self.inside.slots c.self.inside.order c.self.invariant.are c.args.number.now there)
    c.remove-lease.result c.remove-lease.ensures.value
    ∙ ap (λ (m : BTreeMap ℕ g.row.L.Denot). get nat_cmp m c.args.number.now) c.self.view_is

pub returns-clause-removed : goal.returns-clause-removed
returns-clause-removed g c =
    let there = looked-up c.find.result (lease_at c.self.inside.slots c.args.number.now) c.is_none.result false c.find.ensures c.is_none.ensures c.if-is_none.false in
    subst (λ (m : BTreeMap ℕ g.row.L.Denot). Removes nat_cmp m (leases_of c.remove-lease.new.self c.remove.new.self) c.args.number.now) c.self.view_is
    (taken c.self.inside.slots c.self.inside.order c.self.invariant.are c.args.number.now (lease-there c.self.inside.slots c.self.inside.order c.self.invariant.are c.args.number.now there)
    c.remove-lease.new.self c.remove.new.self c.remove-lease.ensures.updates c.remove.ensures.ordered c.remove.ensures.entries c.remove.ensures.changed)

pub invariant_of-self : goal.invariant_of-self
invariant_of-self g c =
    let there = looked-up c.find.result (lease_at c.self.inside.slots c.args.number.now) c.is_none.result false c.find.ensures c.is_none.ensures c.if-is_none.false in
    taken-due g.L.Expires.expiry c.self.inside.slots c.self.inside.order c.self.inside.leasts c.self.invariant c.args.number.now (lease-there c.self.inside.slots c.self.inside.order c.self.invariant.are c.args.number.now there)
    c.remove-lease.new.self c.remove.new.self c.remove-lease.ensures.updates c.remove.ensures.ordered c.remove.ensures.entries c.remove.ensures.changed c.tell_least.new.leasts c.moment_at-was.result c.moment_at-was.ensures.moment c.tell_least.ensures
