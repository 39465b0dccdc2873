-- The arithmetic of the epoch test.
use Rattle.std.proofs.Common.{◌≡◌, ℕ, pos, ◌+◌, ◌/◌, ◌<◌, ◌≤◌, ◌-ℤ◌, ◌||◌, nat_lt, not, Bool, true, false, refl, ap, ◌∙◌, arith}
use Rattle.std.proofs.lemmas.Int.{ints}
use Rattle.client_core.specs.EpochTests.{LossesAreHeard, drifts, lags}

-- a server that fell back lags
lagging : (first second d gap : ℕ) → second ≤ gap + d → 2 + d + gap / 16 < first → lags (pos second -ℤ pos first) (pos gap) ≡ true
lagging first second d gap late high = grind (arith, ints)

-- where one of them does, an epoch isn't valid
stopped : (fell slow : Bool) → not (fell || (slow || true)) ≡ false
stopped true true = refl
stopped true false = refl
stopped false true = refl
stopped false false = refl

passed : (at gap : ℕ) → pos (at + gap) -ℤ pos at ≡ pos gap
passed at gap = omega (arith, ints)

pub losses-heard : LossesAreHeard
losses-heard first second at d gap late high =
    let server = pos second -ℤ pos first in
    ap (λ client. not (nat_lt (second + 1) first || drifts server client)) (passed at gap)
    ∙ ap (λ slow. not (nat_lt (second + 1) first || (lags (pos gap) server || slow))) (lagging first second d gap late high)
    ∙ stopped (nat_lt (second + 1) first) (lags (pos gap) server)
