use Rattle.std.proofs.Common.{◌-◌, length}
use Rattle.std.specs.BTreeMap.{values}
use Rattle.step_count.specs.Levels.{levels}
use Rattle.peer_table.proofs.NextNamed.{HavePassed}
use Rattle.peer_table.proofs.Spending.{within}
use Rattle.peer_table.proofs.named.next_live.Given as goal

abbrev pub invariant-loop-port : goal.invariant-loop-port
invariant-loop-port g l =
    HavePassed l.fn.endpoint l.fn.end l.fn.m (values l.fn.kept.leases) l.at
    × within (levels (length (values l.fn.kept.leases))) l.fn.end l.fn.endpoint.port l.initial.steps l.at.port l.steps

abbrev pub decreases-loop-port : goal.decreases-loop-port
decreases-loop-port g l = l.fn.end - l.at.port
