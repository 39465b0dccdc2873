use Rattle.std.proofs.Common.{refl, arith, rules}
use Rattle.port_runs.specs.Nodes.{empty_node, IsJoined}
use Rattle.port_runs.proofs.Joins.{rejoining_begins, rejoining_ends, rejoined_more, rejoined_still, rejoined_all}
use Rattle.port_runs.proofs.tree.rejoin.Goals.{then-ne, else-ne}
use Rattle.port_runs.proofs.tree.rejoin.Goals as goal

pub loop-place-init : goal.loop-place-init
loop-place-init c = record {
  way = rejoining_begins c.args.low c.args.high c.args.nodes.now c.requires.joined;
  leaves = λ place past. refl;
  still = λ _. c.requires.joined;
}

pub loop-place-preserved : goal.loop-place-preserved
unfolding empty_node
loop-place-preserved c =
    let l = c.loop-place in
    elim c.if-ne.branch [
      | then-ne w ↦ rw (w.nodes-is, w.changed-is, c.joined-node.ensures) (rejoined_more c.args.low c.args.high l.place c.args.nodes.now l.nodes l.changed (omega arith) (omega arith) c.requires.high l.invariant)
      | else-ne w ↦ (
          let right : IsJoined l.nodes l.place = search rules in
          rw (w.nodes-is, w.changed-is) (rejoined_still c.args.low c.args.high l.place c.args.nodes.now l.nodes l.changed right l.invariant))
    ]

pub returns-clause-joined : goal.returns-clause-joined
returns-clause-joined c =
    let l = c.loop-place in
    rejoining_ends c.args.low c.args.high l.place l.nodes (omega (arith, c.loop-place-test.false)) l.invariant.way

pub returns-clause-same : goal.returns-clause-same
returns-clause-same c =
    let l = c.loop-place in
    rejoined_all c.args.low c.args.high l.place c.args.nodes.now l.nodes l.changed (omega (arith, c.loop-place-test.false)) l.invariant
