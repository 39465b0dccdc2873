use Rattle.std.proofs.Common.{suc, ◌≡◌, ◌+◌, ◌-◌, ◌<◌, ◌/◌, ◌%◌, subst, arith, rules}
use Rattle.std.proofs.lemmas.Bool.{OnFalse_at}
use Rattle.expiry_wheel.specs.Moments.{kept_at}
use Rattle.expiry_wheel.specs.Blocks.{IsFirstBelow}
use Rattle.expiry_wheel.proofs.Walks.{IsPassed, passed_none, passed_more, passed_within, right_of_passed, next_found, next_none}
use Rattle.expiry_wheel.proofs.tree.next_block.Goals as goal

pub loop-level-init : goal.loop-level-init
loop-level-init g c = record { passed = passed_none c.args.levels c.args.nodes.now c.args.m c.args.leaf; cost = omega arith; counted = omega arith }

pub is_right_due-requires : goal.is_right_due-requires
is_right_due-requires g c =
    let l = c.loop-level in
    omega (arith, passed_within c.args.levels c.args.nodes.now c.args.m c.args.leaf l.level l.node (c.requires.leaf, c.requires.within) c.loop-level-test.true l.invariant.passed, c.requires.nodes.places)

pub first_block-requires-clause-row : goal.first_block-requires-clause-row
first_block-requires-clause-row g c =
    let l = c.loop-level in
    let even : l.node % 2 ≡ 0 = search rules in
    right_of_passed c.args.levels c.args.nodes.now c.args.m c.args.leaf l.level l.node (c.requires.leaf, c.requires.within) c.loop-level-test.true l.invariant.passed even

pub returns-then-is_right_due-clause-found : goal.returns-then-is_right_due-clause-found
returns-then-is_right_due-clause-found g c =
    let l = c.loop-level in
    let n = c.args.levels in
    let up : n - (n - l.level) ≡ l.level = omega (arith, c.loop-level-test.true) in
    let first = subst (λ k. IsFirstBelow n c.args.nodes.now c.args.m k (l.node + 1) c.first_block.result) up c.first_block.ensures.first in
    next_found n c.args.nodes.now c.args.m c.args.leaf l.level l.node c.first_block.result c.requires.leaf l.invariant.passed first

pub loop-level-preserved : goal.loop-level-preserved
loop-level-preserved g c =
    let l = c.loop-level in
    let n = c.args.levels in
    let later : l.node % 2 ≡ 0 → c.args.m < kept_at c.args.nodes.now (l.node + 1) = OnFalse_at c.if-is_right_due.false c.is_right_due.ensures.later in
    let one_more : suc l.level ≡ l.level + 1 = omega arith in
    record {
      passed = subst (λ k. IsPassed n c.args.nodes.now c.args.m c.args.leaf k (l.node / 2)) one_more (passed_more n c.args.nodes.now c.requires.nodes.tree c.args.m c.args.leaf l.level (n - suc l.level) l.node (omega (arith, c.loop-level-test.true)) later l.invariant.passed);
      cost = omega (arith, l.invariant.cost, c.is_right_due.ensures.cost);
      counted = omega (arith, l.invariant.counted, c.is_right_due.ensures.counted);
    }

pub returns-clause-none : goal.returns-clause-none
returns-clause-none g c =
    let l = c.loop-level in
    let n = c.args.levels in
    let last : l.level ≡ n = omega (arith, c.loop-level-test.false) in
    let passed = subst (λ k. IsPassed n c.args.nodes.now c.args.m c.args.leaf k l.node) last l.invariant.passed in
    next_none n c.args.nodes.now c.args.m c.args.leaf l.node (c.requires.leaf, c.requires.within) passed
