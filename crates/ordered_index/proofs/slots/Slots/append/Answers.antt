use Rattle.std.proofs.Common.{ℕ, ◌+◌, refl, sym, ap, ◌∙◌, subst, arith}
use Rattle.std.specs.BTreeMap.{BTreeMap, get}
use Rattle.std.specs.Ordering.{nat_cmp}
use Rattle.ordered_index.specs.MapSteps.{Inserts}
use Rattle.ordered_index.specs.Slots.{leases_of}
use Rattle.ordered_index.proofs.SlotCalls.{appended-free, appended-inserts, key-named, on-err, roomy-entries, slot-named, vacant-free}
use Rattle.ordered_index.proofs.SlotMoments.{appended-due, few-leases, roomy-due}
use Rattle.ordered_index.proofs.slots.Slots.append.Goals as goal

pub invariant_of-self : goal.invariant_of-self
invariant_of-self g c =
    roomy-due g.L.Expires.expiry c.self.inside.slots c.self.inside.order c.self.inside.leasts c.self.invariant c.reserve.new.self c.reserve.ensures.rest_kept c.self.inside.order refl

pub insert-requires-clause-anew : goal.insert-requires-clause-anew
insert-requires-clause-anew g c =
    let slot = c.vacant_key-slot.result in
    vacant-free c.self.inside.slots c.self.inside.order c.self.invariant.are (c.args.next + slot) slot (slot-named c.args.next slot (c.args.next + slot) c.requires.step c.if-slot-ge-MOST_SLOTS.false refl)
    c.vacant_key-slot.ensures.vacant

pub insert-requires-clause-few : goal.insert-requires-clause-few
insert-requires-clause-few g c = few-leases g.L.Expires.expiry c.self.inside.slots c.self.inside.order c.self.inside.leasts c.self.invariant

pub tell_least-requires-clause-slot : goal.tell_least-requires-clause-slot
tell_least-requires-clause-slot g c = let low = c.if-slot-ge-MOST_SLOTS.false in omega (arith, low)

pub tell_least-requires-clause-all : goal.tell_least-requires-clause-all
tell_least-requires-clause-all g c = c.self.invariant.due.all

pub returns-in_err-reserve-clause-err : goal.returns-in_err-reserve-clause-err
returns-in_err-reserve-clause-err g c =
    on-err c.from_residual.result
    (roomy-entries c.self.inside.slots c.self.inside.order c.self.invariant.are c.reserve.new.self c.reserve.ensures.rest_kept c.self.inside.order refl
    ∙ ap (λ (m : BTreeMap ℕ g.row.L.Denot). m.entries) c.self.view_is)

pub invariant_of-self-2 : goal.invariant_of-self-2
invariant_of-self-2 g c =
    let slot = c.vacant_key-slot.result in
    let key = key-named c.self.inside.slots c.reserve.new.self c.args.next slot c.insert_reserved.result c.requires.step c.if-slot-ge-MOST_SLOTS.false
    c.vacant_key-slot.ensures.value c.reserve.ensures.rest_kept c.insert_reserved.ensures.key in
    let named = slot-named c.args.next slot (c.args.next + slot) c.requires.step c.if-slot-ge-MOST_SLOTS.false refl in
    appended-due g.L.Expires.expiry c.self.inside.slots c.self.inside.order c.self.inside.leasts c.self.invariant c.reserve.new.self c.reserve.ensures.rest_kept c.insert_reserved.new.self c.insert.new.self
    (c.args.next + slot) c.args.lease c.insert_reserved.result key c.insert_reserved.ensures.updates c.insert_reserved.ensures.was_vacant
    c.insert.ensures.ordered c.insert.ensures.entries c.insert.ensures.changed c.tell_least.new.leasts slot (sym named ∙ sym key) c.tell_least.ensures

pub returns-clause-free : goal.returns-clause-free
returns-clause-free g c =
    let slot = c.vacant_key-slot.result in
    let key = key-named c.self.inside.slots c.reserve.new.self c.args.next slot c.insert_reserved.result c.requires.step c.if-slot-ge-MOST_SLOTS.false
    c.vacant_key-slot.ensures.value c.reserve.ensures.rest_kept c.insert_reserved.ensures.key in
    ap (λ (m : BTreeMap ℕ g.row.L.Denot). get nat_cmp m (c.args.next + slot)) (sym c.self.view_is)
    ∙ appended-free c.self.inside.slots c.self.inside.order c.self.invariant.are c.reserve.new.self c.reserve.ensures.rest_kept c.insert_reserved.new.self c.insert.new.self
    (c.args.next + slot) c.args.lease c.insert_reserved.result key c.insert_reserved.ensures.updates c.insert_reserved.ensures.was_vacant
    c.insert.ensures.ordered c.insert.ensures.entries c.insert.ensures.changed

pub returns-clause-inserts : goal.returns-clause-inserts
returns-clause-inserts g c =
    let slot = c.vacant_key-slot.result in
    let key = key-named c.self.inside.slots c.reserve.new.self c.args.next slot c.insert_reserved.result c.requires.step c.if-slot-ge-MOST_SLOTS.false
    c.vacant_key-slot.ensures.value c.reserve.ensures.rest_kept c.insert_reserved.ensures.key in
    subst (λ (m : BTreeMap ℕ g.row.L.Denot). Inserts nat_cmp m (leases_of c.insert_reserved.new.self c.insert.new.self) (c.args.next + slot) c.args.lease) c.self.view_is
    (appended-inserts c.self.inside.slots c.self.inside.order c.self.invariant.are c.reserve.new.self c.reserve.ensures.rest_kept c.insert_reserved.new.self c.insert.new.self
    (c.args.next + slot) c.args.lease c.insert_reserved.result key c.insert_reserved.ensures.updates c.insert_reserved.ensures.was_vacant
    c.insert.ensures.ordered c.insert.ensures.entries c.insert.ensures.changed)
