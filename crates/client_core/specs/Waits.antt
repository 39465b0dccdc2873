-- How long a client waits for an answer before it asks again (RFC 6887, section 8.1.1; the rounding is our own). Times
-- are in milliseconds.
use Rattle.std.specs.Prelude.{ℕ, ◌+◌, ◌-◌, ◌*◌, ◌/◌, ◌%◌, ◌==◌, min, if◌then◌else◌}

-- the base of the wait that follows one, where 0 stands for none
abbrev pub next_base : ℕ → ℕ
next_base previous = if previous == 0 then 3000 else min (2 * previous) 1024000

-- a base with up to a tenth of it more or less, by a number from 0 to 2000 of which 1000 is the middle
abbrev pub spread : ℕ → ℕ → ℕ
spread base k = base + base * (k - 1000) / 10000 - base * (1000 - k) / 10000

-- the wait that follows one
abbrev pub wait_after : ℕ → ℕ → ℕ
wait_after previous word = spread (next_base previous) (word % 2001)
