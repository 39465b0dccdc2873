use Rattle.std.proofs.Common.{List, ℕ, sym, subst, ◌∙◌, ◌^◌, arith}
use Rattle.expiry_wheel.specs.Blocks.{IsWheel}
use Rattle.expiry_wheel.proofs.Moments.{expiries_none}
use Rattle.expiry_wheel.proofs.BlockMoments.{wheel_blank}
use Rattle.expiry_wheel.proofs.wheel.Wheel.new.Goals as goal

pub invariant_of-result : goal.invariant_of-result
invariant_of-result c =
    let moments = c.in_ok-moments.moments.items in
    subst (λ (leasts : List ℕ). IsWheel moments leasts) (sym c.in_ok-leasts.ensures)
    (wheel_blank moments (2 ^ 14) (sym c.in_ok-moments.moments.ok.0 ∙ c.in_ok-moments.ensures.all) (omega arith) c.in_ok-moments.ensures.never)

pub returns : goal.returns
returns c = expiries_none c.in_ok-moments.moments.items c.in_ok-moments.ensures.never
