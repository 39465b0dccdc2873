use Rattle.std.proofs.Common.{◌≡◌, Option, None, rules}
use Rattle.tool_commands.specs.declared.statuses.ToolStatus.{ToolStatus}
use Rattle.keep_runs.proofs.TurnLemmas.{begins, goes_on, has_ended}
use Rattle.keep_runs.proofs.runs.keep.Goals as goal

pub loop-preserved : goal.loop-preserved
loop-preserved g c =
    let is : ◌≡◌ {A = Option ToolStatus} c.do_turn-ended.result None = search rules in
    (tt, tt, goes_on _ _ _ _ _ c.do_turn-ended.result is (c.do_turn-ended.ensures _ _ c.loop.invariant.2))

pub returns-in-Some-ended : goal.returns-in-Some-ended
returns-in-Some-ended g c = has_ended _ _ _ _ _ c.do_turn-ended.result c.in-Some-ended.status (search rules) (c.do_turn-ended.ensures _ _ c.loop.invariant.2)

pub loop-init : goal.loop-init
loop-init g c = (tt, tt, begins _ _ _)
