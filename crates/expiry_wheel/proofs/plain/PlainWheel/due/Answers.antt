use Rattle.std.proofs.Common.{Some, None}
use Rattle.expiry_wheel.proofs.Next.{next_due, none_due, nothing_there}
use Rattle.expiry_wheel.proofs.PlainLemmas.{soonest_seen}
use Rattle.expiry_wheel.proofs.plain.PlainWheel.due.Goals as goal

pub returns-in_default-clause-none : goal.returns-in_default-clause-none
returns-in_default-clause-none c id expiry found =
    absurd (nothing_there c.args.self.now (soonest_seen c.deref.result.now _ _ None c.deref.ensures.value c.self.view_is c.self.invariant c.in_default.ensures.present c.in_default.ensures.first) id expiry found)

pub returns-then-m-next-clause-none : goal.returns-then-m-next-clause-none
returns-then-m-next-clause-none c =
    none_due c.args.self.now c.in-Some.next c.args.m (soonest_seen c.deref.result.now _ _ (Some c.in-Some.next) c.deref.ensures.value c.self.view_is c.self.invariant c.in-Some.ensures.present c.in-Some.ensures.first) c.if-m-next.true

pub returns-clause-next : goal.returns-clause-next
returns-clause-next c =
    next_due c.args.self.now c.in-Some.next c.args.m (soonest_seen c.deref.result.now _ _ (Some c.in-Some.next) c.deref.ensures.value c.self.view_is c.self.invariant c.in-Some.ensures.present c.in-Some.ensures.first) c.if-m-next.false
