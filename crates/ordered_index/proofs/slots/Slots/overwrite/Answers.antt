use Rattle.std.proofs.Common.{ℕ, IsSome, sym, subst}
use Rattle.std.specs.Ordering.{nat_cmp}
use Rattle.std.specs.BTreeMap.{BTreeMap, get}
use Rattle.ordered_index.specs.MapSteps.{Overwrites}
use Rattle.ordered_index.specs.Slots.{leases_of}
use Rattle.ordered_index.proofs.SlotCalls.{overwritten, slot-there}
use Rattle.ordered_index.proofs.SlotMoments.{overwritten-due, slot-low}
use Rattle.ordered_index.proofs.slots.Slots.overwrite.Goals as goal

pub write-requires : goal.write-requires
write-requires g c =
    let there = subst (λ (m : BTreeMap ℕ g.row.L.Denot). IsSome (get nat_cmp m c.args.number)) (sym c.self.view_is) c.requires in
    slot-there c.self.inside.slots c.self.inside.order c.self.invariant.are c.args.number there

pub tell_least-requires-clause-slot : goal.tell_least-requires-clause-slot
tell_least-requires-clause-slot g c = slot-low c.args.number

pub tell_least-requires-clause-all : goal.tell_least-requires-clause-all
tell_least-requires-clause-all g c = c.self.invariant.due.all

pub invariant_of-self : goal.invariant_of-self
invariant_of-self g c =
    let there = subst (λ (m : BTreeMap ℕ g.row.L.Denot). IsSome (get nat_cmp m c.args.number)) (sym c.self.view_is) c.requires in
    overwritten-due g.L.Expires.expiry c.self.inside.slots c.self.inside.order c.self.inside.leasts c.self.invariant c.args.number there c.write.new.slots c.args.lease c.write.ensures
    c.tell_least.new.leasts c.moment_at-was.result c.moment_at-was.ensures.moment c.tell_least.ensures

pub returns : goal.returns
returns g c =
    let there = subst (λ (m : BTreeMap ℕ g.row.L.Denot). IsSome (get nat_cmp m c.args.number)) (sym c.self.view_is) c.requires in
    subst (λ (m : BTreeMap ℕ g.row.L.Denot). Overwrites nat_cmp m (leases_of c.write.new.slots c.self.inside.order) c.args.number c.args.lease) c.self.view_is
    (overwritten c.self.inside.slots c.self.inside.order c.self.invariant.are c.args.number there c.write.new.slots c.args.lease c.write.ensures)
