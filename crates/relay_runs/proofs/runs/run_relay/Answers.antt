use Rattle.std.proofs.Common.{◌≡◌, Option, None, rules}
use Rattle.tool_commands.specs.declared.statuses.ToolStatus.{ToolStatus}
use Rattle.relay_runs.proofs.TurnLemmas.{HasRun-none, turn_ended, turn_goes}
use Rattle.relay_runs.proofs.runs.run_relay.Goals as goal

pub loop-preserved : goal.loop-preserved
loop-preserved g c =
    let is : ◌≡◌ {A = Option ToolStatus} c.do_turn-ended.result None = search rules in
    (tt, tt, turn_goes g.M.RelayMachine.machine c.do_turn-ended.result _ _ _ _ _ _ _ is c.loop.invariant.2 c.do_turn-ended.ensures)

pub returns-in-Some-ended : goal.returns-in-Some-ended
returns-in-Some-ended g c = turn_ended g.M.RelayMachine.machine c.do_turn-ended.result c.in-Some-ended.status _ _ _ _ _ _ _ (search rules) c.loop.invariant.2 c.do_turn-ended.ensures

pub loop-init : goal.loop-init
loop-init g c = (tt, tt, HasRun-none g.M.RelayMachine.machine _ _ _)
