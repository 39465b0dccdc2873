use Rattle.std.proofs.Common.{◌≡◌, ℕ, ◌+◌, ◌*◌, ◌/◌, ◌<◌, ◌≤◌, List, Option, None, Some, is_some, false, IfSome, IfNone, sym, ◌∙◌, arith}
use Rattle.expiry_wheel.specs.declared.TheConstants.{NEVER}
use Rattle.expiry_wheel.specs.Moments.{kept_at, IsFirstIn}
use Rattle.expiry_wheel.specs.Blocks.{IsWheel}
use Rattle.expiry_wheel.proofs.BlockMoments.{block_due, first_is, none_is}
use Rattle.expiry_wheel.proofs.blocks.first_from.Goals as goal

none_when : (found : Option ℕ) (P : Type 0) → is_some found ≡ false → IfNone found P → P
none_when None P none is = is
none_when (Some id) P none is = cc

module _ (moments leasts : List ℕ) (wheel : IsWheel moments leasts) (from m b : ℕ) (low : b < 16384) (next : IsFirstIn leasts (from / 8 + 1) m b) where
  -- the first id of the first block is the first
  found_first : (found : Option ℕ) → ((j : ℕ) → from ≤ j → j < 8 * (from / 8) + 8 → m < kept_at moments j) → IfSome found (IsFirstIn moments (8 * b) m) → IfSome found (λ id. id < 8 * b + 8) → IfSome found (IsFirstIn moments from m)
  found_first None own here near = tt
  found_first (Some id) own here near = first_is 16384 (kept_at moments) leasts wheel.blocks m from b id (omega (arith, low, near)) own next here

  -- and there is one
  never_none : (found : Option ℕ) (P : Type 0) → m < NEVER → IfNone found ((id : ℕ) → 8 * b ≤ id → id < 8 * b + 8 → m < kept_at moments id) → IfNone found P
  never_none None P some none = absurd (block_due 16384 (kept_at moments) leasts wheel.blocks m b some low next.due none)
  never_none (Some id) P some none = tt

pub first_of-requires-clause-block : goal.first_of-requires-clause-block
first_of-requires-clause-block g c = omega (arith, c.in-Some.ensures.within, c.requires.wheel.blocks.all)

pub returns-in_default-clause-none : goal.returns-in_default-clause-none
returns-in_default-clause-none g c =
    let own = none_when c.first_in-found.result _ (sym c.is_some.ensures ∙ c.if-is_some.false) c.first_in-found.ensures.none in
    none_is 16384 (kept_at c.args.moments.now) c.args.leasts.now c.requires.wheel.blocks c.args.m c.args.from own c.in_default.ensures.none

pub returns-clause-found : goal.returns-clause-found
returns-clause-found g c =
    let own = none_when c.first_in-found.result _ (sym c.is_some.ensures ∙ c.if-is_some.false) c.first_in-found.ensures.none in
    found_first c.args.moments.now c.args.leasts.now c.requires.wheel c.args.from c.args.m c.in-Some.later (omega (arith, c.in-Some.ensures.within, c.requires.wheel.blocks.all)) c.in-Some.ensures.found
    c.first_of.result own c.first_of.ensures.found c.first_of.ensures.below

pub returns-clause-none : goal.returns-clause-none
returns-clause-none g c =
    never_none c.args.moments.now c.args.leasts.now c.requires.wheel c.args.from c.args.m c.in-Some.later (omega (arith, c.in-Some.ensures.within, c.requires.wheel.blocks.all)) c.in-Some.ensures.found
    c.first_of.result _ c.requires.sometime c.first_of.ensures.none

pub returns-in_default-clause-looked : goal.returns-in_default-clause-looked
returns-in_default-clause-looked g c = omega (arith, c.first_in-found.ensures.looked (omega arith), c.in_default.ensures.counted)

pub returns-clause-looked : goal.returns-clause-looked
returns-clause-looked g c = omega (arith, c.first_in-found.ensures.looked (omega arith), c.in-Some.ensures.counted, c.first_of.ensures.looked)
