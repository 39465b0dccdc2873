use Rattle.std.proofs.Common.{suc, ◌≡◌, ◌-◌, subst, arith}
use Rattle.expiry_wheel.proofs.Walks.{IsOnWay, way_begins, way_goes_on, way_ends, within_inner}
use Rattle.expiry_wheel.proofs.tree.first_block.Goals as goal

pub loop-left-init : goal.loop-left-init
loop-left-init g c = record {
  way = way_begins c.args.levels c.args.nodes.now c.args.m c.args.depth c.args.node c.requires.depth c.requires.row c.requires.due;
  cost = omega arith;
}

pub first_child-i-requires : goal.first_child-i-requires
first_child-i-requires g c =
    let l = c.loop-left in
    let way = l.invariant.way in
    let inner = within_inner c.args.levels (l.left - 1) (c.args.levels - l.left) l.i (omega (arith, c.loop-left-test.true, way.fewer)) way.in_row in
    omega (arith, inner, c.requires.nodes.places)

pub loop-left-preserved : goal.loop-left-preserved
loop-left-preserved g c =
    let l = c.loop-left in
    let below = c.args.levels - c.args.depth in
    let more : l.left ≡ suc (l.left - 1) = omega (arith, c.loop-left-test.true) in
    let way = subst (λ k. IsOnWay c.args.levels c.args.nodes.now c.args.m below c.args.node k l.i) more l.invariant.way in
    record {
      way = way_goes_on c.args.levels c.args.nodes.now c.requires.nodes.tree c.args.m below c.args.node (l.left - 1) l.i c.first_child-i.result (omega arith) way c.first_child-i.ensures.child;
      cost = omega (arith, l.invariant.cost, c.first_child-i.ensures.cost, c.loop-left-test.true);
    }

pub returns-clause-first : goal.returns-clause-first
returns-clause-first g c =
    let l = c.loop-left in
    let below = c.args.levels - c.args.depth in
    let none : l.left ≡ 0 = omega (arith, c.loop-left-test.false) in
    way_ends c.args.levels c.args.nodes.now c.args.m below c.args.node l.i (subst (λ k. IsOnWay c.args.levels c.args.nodes.now c.args.m below c.args.node k l.i) none l.invariant.way)
