use Rattle.std.proofs.Common.{◌≡◌, ◌-◌, ◌/◌, ◌<◌, length, subst, arith}
use Rattle.expiry_wheel.specs.Moments.{kept_at, IsNextIn}
use Rattle.expiry_wheel.specs.Blocks.{row, leasts_in, IsFirstBelow}
use Rattle.expiry_wheel.proofs.Walks.{some_in_row}
use Rattle.expiry_wheel.proofs.LeastLists.{root_next, root_own, root_none, leaf_within}
use Rattle.expiry_wheel.proofs.tree.next.Goals as goal

pub look-least-requires : goal.look-least-requires
look-least-requires g c = omega (arith, c.requires.nodes.places, some_in_row c.args.levels)

pub returns-then-m-least-clause-none : goal.returns-then-m-least-clause-none
returns-then-m-least-clause-none g c = root_none c.args.levels c.args.nodes.now c.requires.nodes c.args.m (subst (λ v. c.args.m < v) c.look-least.ensures.value c.if-m-least.true)

pub first_block-leaf-requires-clause-due : goal.first_block-leaf-requires-clause-due
first_block-leaf-requires-clause-due g c = omega (arith, c.look-least.ensures.value)

pub returns-clause-next : goal.returns-clause-next
returns-clause-next g c =
    let n = c.args.levels in
    let least = c.look-least.result in
    let half : row n ≡ length c.args.nodes.now / 2 = omega (arith, c.requires.nodes.places) in
    let root : n - 0 ≡ n = omega arith in
    let first = subst (λ k. IsFirstBelow n c.args.nodes.now least k 1 c.first_block-leaf.result) root c.first_block-leaf.ensures.first in
    subst (λ k. IsNextIn (leasts_in n c.args.nodes.now) c.args.m (c.first_block-leaf.result - k)) half
    (root_next n c.args.nodes.now c.requires.nodes c.args.m least c.first_block-leaf.result c.look-least.ensures.value (omega (arith, c.if-m-least.false)) first)

pub returns-clause-least : goal.returns-clause-least
returns-clause-least g c =
    let n = c.args.levels in
    let least = c.look-least.result in
    let half : row n ≡ length c.args.nodes.now / 2 = omega (arith, c.requires.nodes.places) in
    let root : n - 0 ≡ n = omega arith in
    let first = subst (λ k. IsFirstBelow n c.args.nodes.now least k 1 c.first_block-leaf.result) root c.first_block-leaf.ensures.first in
    subst (λ k. least ≡ kept_at (leasts_in n c.args.nodes.now) (c.first_block-leaf.result - k)) half
    (root_own n c.args.nodes.now c.requires.nodes least c.first_block-leaf.result c.look-least.ensures.value first)

pub returns-clause-within : goal.returns-clause-within
returns-clause-within g c =
    let n = c.args.levels in
    let half : row n ≡ length c.args.nodes.now / 2 = omega (arith, c.requires.nodes.places) in
    let first = c.first_block-leaf.ensures.first in
    subst (λ k. c.first_block-leaf.result - k < length (leasts_in n c.args.nodes.now)) half (leaf_within n c.args.nodes.now c.requires.nodes c.first_block-leaf.result first.is_block first.within)
