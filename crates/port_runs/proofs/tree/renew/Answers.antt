use Rattle.std.proofs.Common.{false, arith, rules}
use Rattle.port_runs.specs.Flags.{flags_of}
use Rattle.port_runs.specs.Nodes.{empty_node, IsLeaf}
use Rattle.port_runs.proofs.Joins.{renewed_begins, renewed_more, renewed_still, all_leaves}
use Rattle.port_runs.proofs.tree.renew.Goals.{then-ne, else-ne}
use Rattle.port_runs.proofs.tree.renew.Goals as goal

pub loop-index-init : goal.loop-index-init
loop-index-init c = renewed_begins (flags_of c.args.words.now) c.args.low c.args.high c.args.nodes.now false c.requires.leaves c.requires.joined

pub loop-index-preserved : goal.loop-index-preserved
unfolding empty_node
loop-index-preserved c =
    let l = c.loop-index in
    let flags = flags_of c.args.words.now in
    elim c.if-ne.branch [
      | then-ne w ↦ rw (w.nodes-is, w.changed-is) (renewed_more flags c.args.low c.args.high l.index l.nodes l.changed (omega arith) (omega arith) c.requires.high l.invariant c.leaf-node.result c.leaf-node.ensures)
      | else-ne w ↦ (
          let right : IsLeaf flags l.nodes l.index = search rules in
          rw (w.nodes-is, w.changed-is) (renewed_still flags c.args.low c.args.high l.index l.nodes l.changed (omega arith) (omega arith) c.requires.high l.invariant right))
    ]

pub returns-clause-leaves : goal.returns-clause-leaves
returns-clause-leaves c =
    let l = c.loop-index in
    all_leaves (flags_of c.args.words.now) l.index c.args.high l.nodes (omega (arith, c.loop-index-test.false)) l.invariant.leaves
