use Rattle.std.proofs.Common.{◌≡◌, ◌-◌, ◌/◌, ◌<◌, length, subst, arith}
use Rattle.expiry_wheel.specs.Moments.{IsFirstIn}
use Rattle.expiry_wheel.specs.Blocks.{row, leasts_in, IsFirstBelow}
use Rattle.expiry_wheel.proofs.Walks.{some_in_row}
use Rattle.expiry_wheel.proofs.LeastLists.{root_first, root_none, leaf_within}
use Rattle.expiry_wheel.proofs.tree.first.Goals as goal

pub look-requires : goal.look-requires
look-requires g c = omega (arith, c.requires.nodes.places, some_in_row c.args.levels)

pub returns-then-m-look-clause-none : goal.returns-then-m-look-clause-none
returns-then-m-look-clause-none g c = root_none c.args.levels c.args.nodes.now c.requires.nodes c.args.m (subst (λ v. c.args.m < v) c.look.ensures.value c.if-m-look.true)

pub first_block-leaf-requires-clause-due : goal.first_block-leaf-requires-clause-due
first_block-leaf-requires-clause-due g c = omega (arith, c.look.ensures.value, c.if-m-look.false)

pub returns-clause-found : goal.returns-clause-found
returns-clause-found g c =
    let n = c.args.levels in
    let half : row n ≡ length c.args.nodes.now / 2 = omega (arith, c.requires.nodes.places) in
    let root : n - 0 ≡ n = omega arith in
    let first = subst (λ k. IsFirstBelow n c.args.nodes.now c.args.m k 1 c.first_block-leaf.result) root c.first_block-leaf.ensures.first in
    subst (λ k. IsFirstIn (leasts_in n c.args.nodes.now) 0 c.args.m (c.first_block-leaf.result - k)) half (root_first n c.args.nodes.now c.requires.nodes c.args.m c.first_block-leaf.result first)

pub returns-clause-within : goal.returns-clause-within
returns-clause-within g c =
    let n = c.args.levels in
    let half : row n ≡ length c.args.nodes.now / 2 = omega (arith, c.requires.nodes.places) in
    let first = c.first_block-leaf.ensures.first in
    subst (λ k. c.first_block-leaf.result - k < length (leasts_in n c.args.nodes.now)) half (leaf_within n c.args.nodes.now c.requires.nodes c.first_block-leaf.result first.is_block first.within)
