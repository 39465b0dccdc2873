-- What holds of numbers of steps.
use Rattle.std.specs.Prelude.{ℕ, ◌≤◌, ◌<◌, ◌^◌}
use Rattle.step_count.specs.Levels.{levels}

-- a greater number has as many digits at least
abbrev pub LevelsGrow : Type 0
LevelsGrow = (a b : ℕ) → a ≤ b → b < 2 ^ 64 → levels a ≤ levels b
