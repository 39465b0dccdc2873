use Rattle.std.proofs.Common.{◌≡◌, subst, arith}
use Rattle.expiry_wheel.proofs.Writes.{IsWriting, leaf_written, written_bounds, node_written, tree_stays, tree_ends}
use Rattle.expiry_wheel.proofs.tree.write.Goals as goal

pub look-requires : goal.look-requires
look-requires g c = omega (arith, c.requires.nodes.places, c.requires.within)

pub loop-level-init : goal.loop-level-init
loop-level-init g c = record {
  writing = leaf_written c.args.levels c.args.nodes.now c.args.leaf c.args.least (c.requires.leaf, c.requires.within) c.requires.nodes;
  cost = omega (arith, c.look.ensures.step);
}

pub look_beside-requires-clause-inner : goal.look_beside-requires-clause-inner
look_beside-requires-clause-inner g c =
    let l = c.loop-level in
    (written_bounds c.args.levels c.args.nodes.now c.args.leaf c.args.least (c.requires.leaf, c.requires.within) l.nodes l.level l.i l.kept l.invariant.writing c.loop-level-test.true).0

pub look_beside-requires-clause-within : goal.look_beside-requires-clause-within
look_beside-requires-clause-within g c =
    let l = c.loop-level in
    let writing = l.invariant.writing in
    omega (arith, (written_bounds c.args.levels c.args.nodes.now c.args.leaf c.args.least (c.requires.leaf, c.requires.within) l.nodes l.level l.i l.kept writing c.loop-level-test.true).1, writing.places)

pub look-requires-in-loop-level : goal.look-requires-in-loop-level
look-requires-in-loop-level g c =
    let l = c.loop-level in
    let writing = l.invariant.writing in
    omega (arith, (written_bounds c.args.levels c.args.nodes.now c.args.leaf c.args.least (c.requires.leaf, c.requires.within) l.nodes l.level l.i l.kept writing c.loop-level-test.true).1, writing.places)

pub returns-then-look-kept-clause-nodes : goal.returns-then-look-kept-clause-nodes
returns-then-look-kept-clause-nodes g c =
    let l = c.loop-level in
    tree_stays c.args.levels c.args.nodes.now c.args.leaf c.args.least (c.requires.leaf, c.requires.within) l.nodes l.level l.i l.kept l.invariant.writing
    c.look_beside.result c.look-in-loop-level.result c.min-kept.result c.look_beside.ensures.value c.look-in-loop-level.ensures.value c.if-look-kept.true c.min-kept.ensures c.requires.nodes.few

pub loop-level-preserved : goal.loop-level-preserved
loop-level-preserved g c =
    let l = c.loop-level in
    rw c.min-kept.ensures (record {
      writing = node_written c.args.levels c.args.nodes.now c.args.leaf c.args.least (c.requires.leaf, c.requires.within) l.nodes l.level l.i l.kept l.invariant.writing c.look_beside.result c.loop-level-test.true c.look_beside.ensures.value;
      cost = omega (arith, l.invariant.cost, c.look_beside.ensures.cost, c.look-in-loop-level.ensures.step);
    })

pub returns-clause-nodes : goal.returns-clause-nodes
returns-clause-nodes g c =
    let l = c.loop-level in
    let n = c.args.levels in
    let last : l.level ≡ n = omega (arith, c.loop-level-test.false) in
    tree_ends n c.args.nodes.now c.args.leaf c.args.least (c.requires.leaf, c.requires.within) l.nodes l.i l.kept (subst (λ k. IsWriting n c.args.nodes.now l.nodes c.args.leaf c.args.least k l.i l.kept) last l.invariant.writing) c.requires.nodes.few
