-- How many looks a look-up takes (our own).
use Rattle.std.specs.Prelude.{ℕ, ◌-◌}
use Rattle.std.specs.Int.Count.{count_leading_zeros}

-- how many binary digits n has, a number of 64 bits; 0 has none
abbrev pub levels : ℕ → ℕ
levels n = 64 - count_leading_zeros 64 n
