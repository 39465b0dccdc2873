use Rattle.std.proofs.Common.{length, sym, ◌∙◌}
use Rattle.std.specs.BTreeMap.{values}
use Rattle.step_count.specs.Levels.{levels}
use Rattle.peer_table.proofs.NextNamed.{passed_all, passed_one, passed_to}
use Rattle.peer_table.proofs.Spending.{one-turn}
use Rattle.peer_table.proofs.named.next_live.Goals as goal

pub returns-then-has_live-clause-next : goal.returns-then-has_live-clause-next
returns-then-has_live-clause-next g c = passed_to c.args.endpoint.now c.args.end c.args.m (values c.args.kept.now.leases) c.loop-port.at c.loop-port.invariant.0 c.in-Some.port c.in-Some.ensures.next (sym c.has_live.ensures.live ∙ c.if-has_live.true)

pub loop-port-preserved : goal.loop-port-preserved
loop-port-preserved g c = (
  passed_one c.args.endpoint.now c.args.end c.args.m (values c.args.kept.now.leases) c.loop-port.at c.loop-port.invariant.0 c.in-Some.port c.in-Some.ensures.next (sym c.has_live.ensures.live ∙ c.if-has_live.false),
  one-turn (levels (length (values c.args.kept.now.leases))) c.args.end c.args.endpoint.now.port c.args.steps.now c.loop-port.at.port c.in-Some.port c.loop-port.steps c.next_named.new.steps c.has_live.new.steps
      c.in-Some.ensures.next.above c.in-Some.ensures.next.below c.in-Some.ensures.steps c.has_live.ensures.steps c.loop-port.invariant.1,
)

pub returns-clause-next : goal.returns-clause-next
returns-clause-next g c = passed_all c.args.endpoint.now c.args.end c.args.m (values c.args.kept.now.leases) c.loop-port.at c.loop-port.invariant.0 c.in_default.ensures.next
