-- The epoch that is told (RFC 6887, section 8.5).
use Rattle.std.specs.Prelude.{ℕ, ◌-◌, ◌^◌, min}

-- the seconds from the base to m, at most 2 ^ 32 - 1; 0 where the base is later, since - stops at 0
abbrev pub epoch_of : ℕ → ℕ → ℕ
epoch_of m base = min (m - base) (2 ^ 32 - 1)
