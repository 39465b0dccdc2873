use Rattle.std.proofs.Common.{◌≡◌, ℕ, ◌+◌, ◌*◌, ◌<◌, ◌≤◌, List, Option, None, Some, IfSome, IfNone, arith}
use Rattle.expiry_wheel.specs.declared.TheConstants.{NEVER}
use Rattle.expiry_wheel.specs.Moments.{kept_at, IsFirstIn, IsNextIn}
use Rattle.expiry_wheel.specs.Blocks.{IsWheel}
use Rattle.expiry_wheel.proofs.BlockMoments.{block_due, all_later, next_is}
use Rattle.expiry_wheel.proofs.blocks.next.Goals as goal

module _ (moments leasts : List ℕ) (wheel : IsWheel moments leasts) (m least b : ℕ) (next : IsNextIn leasts m b) (is : least ≡ kept_at leasts b) (low : b < 16384) where
  -- the first id of the first block is the next
  found_next : (found : Option ℕ) → IfSome found (IsFirstIn moments (8 * b) least) → IfSome found (λ id. id < 8 * b + 8) → IfSome found (IsNextIn moments m)
  found_next None here near = tt
  found_next (Some id) here near = next_is moments leasts m least b id wheel next is (omega (arith, low, near)) here

  -- and there is one
  never_none : (found : Option ℕ) (P : Type 0) → m < NEVER → IfNone found ((id : ℕ) → 8 * b ≤ id → id < 8 * b + 8 → least < kept_at moments id) → IfNone found P
  never_none None P some none = absurd (block_due 16384 (kept_at moments) leasts wheel.blocks least b (omega (arith, some, is, next.first.due, next.due)) low (omega (arith, is)) none)
  never_none (Some id) P some none = tt

pub first_of-requires-clause-block : goal.first_of-requires-clause-block
first_of-requires-clause-block g c = omega (arith, c.in-Some.ensures.within, c.requires.wheel.blocks.all)

pub returns-in_default-clause-none : goal.returns-in_default-clause-none
returns-in_default-clause-none g c = all_later 16384 (kept_at c.args.moments.now) c.args.leasts.now c.requires.wheel.blocks c.args.m c.in_default.ensures.none

pub returns-clause-next : goal.returns-clause-next
returns-clause-next g c =
    found_next c.args.moments.now c.args.leasts.now c.requires.wheel c.args.m c.in-Some.due.least c.in-Some.due.block c.in-Some.ensures.next c.in-Some.ensures.least (omega (arith, c.in-Some.ensures.within, c.requires.wheel.blocks.all))
    c.first_of.result c.first_of.ensures.found c.first_of.ensures.below

pub returns-clause-none : goal.returns-clause-none
returns-clause-none g c =
    never_none c.args.moments.now c.args.leasts.now c.requires.wheel c.args.m c.in-Some.due.least c.in-Some.due.block c.in-Some.ensures.next c.in-Some.ensures.least (omega (arith, c.in-Some.ensures.within, c.requires.wheel.blocks.all))
    c.first_of.result _ c.requires.sometime c.first_of.ensures.none

pub returns-clause-root : goal.returns-clause-root
returns-clause-root g c =
    never_none c.args.moments.now c.args.leasts.now c.requires.wheel c.args.m c.in-Some.due.least c.in-Some.due.block c.in-Some.ensures.next c.in-Some.ensures.least (omega (arith, c.in-Some.ensures.within, c.requires.wheel.blocks.all))
    c.first_of.result _ c.requires.sometime c.first_of.ensures.none

in_any : (found : Option ℕ) (P : Type 0) → P → IfSome found (λ _. P)
in_any None P is = tt
in_any (Some id) P is = is

-- a step for each level, and a moment at least
pub returns-clause-looked : goal.returns-clause-looked
returns-clause-looked g c =
    let many : c.args.steps.now + 16 ≤ c.first_of.new.steps = omega (arith, c.in-Some.ensures.way 14 c.requires.wheel.blocks.all, c.first_of.ensures.looked) in
    in_any c.first_of.result _ many
