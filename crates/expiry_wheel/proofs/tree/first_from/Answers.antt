use Rattle.std.proofs.Common.{◌≡◌, ℕ, ◌+◌, ◌-◌, ◌/◌, ◌<◌, ◌≤◌, length, Option, None, Some, IfNone, subst, arith}
use Rattle.expiry_wheel.specs.Moments.{kept_at, IsFirstIn}
use Rattle.expiry_wheel.specs.Blocks.{row, leasts_in}
use Rattle.expiry_wheel.proofs.LeastLists.{leasts_first, leasts_none, leasts_all, leaf_within}
use Rattle.expiry_wheel.proofs.tree.first_from.Goals as goal

none_from : (found : Option ℕ) (from long : ℕ) (P : ℕ → Type 0) → IfNone found ((block : ℕ) → block < long → P block) → IfNone found ((block : ℕ) → from ≤ block → block < long → P block)
none_from None from long P none = λ block after within. none block within
none_from (Some block) from long P none = tt

pub returns-then-from-eq0-clause-found : goal.returns-then-from-eq0-clause-found
returns-then-from-eq0-clause-found g c = rw c.if-from-eq0.true c.first.ensures.found

pub returns-then-from-eq0-clause-none : goal.returns-then-from-eq0-clause-none
returns-then-from-eq0-clause-none g c =
    let leasts = leasts_in c.args.levels c.args.nodes.now in
    none_from c.first.result c.args.from (length leasts) (λ block. c.args.m < kept_at leasts block) c.first.ensures.none

pub returns-then-from-eq0-clause-cost : goal.returns-then-from-eq0-clause-cost
returns-then-from-eq0-clause-cost g c = omega (arith, c.first.ensures.cost, c.requires.nodes.few)

pub returns-then-from-blocks-clause-none : goal.returns-then-from-blocks-clause-none
returns-then-from-blocks-clause-none g c block after within =
    absurd (omega (arith, after, within, leasts_all c.args.levels c.args.nodes.now c.requires.nodes, c.requires.nodes.places, c.if-from-blocks.true))

pub next_block-requires-clause-leaf : goal.next_block-requires-clause-leaf
next_block-requires-clause-leaf g c = omega (arith, c.requires.nodes.places, c.if-from-eq0.false)

pub next_block-requires-clause-within : goal.next_block-requires-clause-within
next_block-requires-clause-within g c = omega (arith, c.requires.nodes.places, c.if-from-eq0.false, c.if-from-blocks.false)

pub returns-in_default-clause-none : goal.returns-in_default-clause-none
returns-in_default-clause-none g c =
    let n = c.args.levels in
    leasts_none n c.args.nodes.now c.requires.nodes c.args.m c.args.from
    (λ leaf after within. c.in_default.ensures.none leaf (omega (arith, after, c.requires.nodes.places, c.if-from-eq0.false)) within)

pub returns-in_default-clause-cost : goal.returns-in_default-clause-cost
returns-in_default-clause-cost g c = omega (arith, c.in_default.ensures.cost, c.requires.nodes.few)

pub returns-clause-found : goal.returns-clause-found
returns-clause-found g c =
    let n = c.args.levels in
    let nodes = c.args.nodes.now in
    let half : row n ≡ length nodes / 2 = omega (arith, c.requires.nodes.places) in
    let next : length nodes / 2 + c.args.from - 1 + 1 ≡ row n + c.args.from = omega (arith, half, c.if-from-eq0.false) in
    let first = subst (λ k. IsFirstIn nodes k c.args.m c.in-Some.leaf) next c.in-Some.ensures.found in
    subst (λ k. IsFirstIn (leasts_in n nodes) c.args.from c.args.m (c.in-Some.leaf - k)) half
    (leasts_first n nodes c.requires.nodes c.args.m c.args.from c.in-Some.leaf (omega (arith, first.from_on)) first)

pub returns-clause-within : goal.returns-clause-within
returns-clause-within g c =
    let n = c.args.levels in
    let nodes = c.args.nodes.now in
    let half : row n ≡ length nodes / 2 = omega (arith, c.requires.nodes.places) in
    subst (λ k. c.in-Some.leaf - k < length (leasts_in n nodes)) half
    (leaf_within n nodes c.requires.nodes c.in-Some.leaf (omega (arith, half, c.in-Some.ensures.found.from_on, c.if-from-eq0.false)) c.in-Some.ensures.within)

pub returns-clause-cost : goal.returns-clause-cost
returns-clause-cost g c = omega (arith, c.in-Some.ensures.cost, c.requires.nodes.few)
