use Rattle.std.proofs.Common.{refl, ◌∙◌, arith}
use Rattle.port_runs.proofs.Joins.{joined_from_none}
use Rattle.port_runs.proofs.tree.refresh.Goals as goal

pub loop-last-init : goal.loop-last-init
loop-last-init c = record { leaves = λ place past. refl; joined = c.requires.joined; small = c.requires.high }

pub loop-last-preserved : goal.loop-last-preserved
loop-last-preserved c = record {
  leaves = λ place past. c.rejoin.ensures.leaves place past ∙ c.loop-last.invariant.leaves place past;
  joined = c.rejoin.ensures.joined;
  small = (let small = c.loop-last.invariant.small in omega arith);
}

pub returns-clause-joined : goal.returns-clause-joined
returns-clause-joined c =
    let l = c.loop-last in
    joined_from_none l.first l.last l.nodes (omega (arith, c.loop-last-test.false)) l.invariant.joined
