-- Runs of bits in a word of 64 (our own; for proofs alone).
use Rattle.std.specs.Prelude.{ℕ, ◌≡◌, ◌<◌, ◌≤◌, ◌+◌, Bool, if◌then◌else◌}
use Rattle.std.specs.Int.{bit_at}

-- so many bits are 1 from a place on, and not one more
pub record IsBitRun (word place run : ℕ) : Type 0 where
  pub within : place + run ≤ 64
  pub set : (i : ℕ) → place ≤ i → i < place + run → bit_at word i ≡ 1
  pub ends : place + run < 64 → bit_at word (place + run) ≡ 0

-- so many bits are 1 up to the last, and not one more
pub record IsBitSuffix (word run : ℕ) : Type 0 where
  pub within : run ≤ 64
  pub set : (i : ℕ) → 64 ≤ i + run → i < 64 → bit_at word i ≡ 1
  pub ends : (i : ℕ) → i + run + 1 ≡ 64 → bit_at word i ≡ 0

-- the next run of 1s from a place on begins at start and ends before stop; both are 64 where there
-- is none
pub record IsNextRun (word place start stop : ℕ) : Type 0 where
  pub from : place ≤ start
  pub ordered : start ≤ stop
  pub within : stop ≤ 64
  pub clear : (i : ℕ) → place ≤ i → i < start → bit_at word i ≡ 0
  pub set : (i : ℕ) → start ≤ i → i < stop → bit_at word i ≡ 1
  pub ends : stop < 64 → bit_at word stop ≡ 0

-- the bits from low up to high, which is not among them, and no other
pub record IsMask (low high mask : ℕ) : Type 0 where
  pub inside : (i : ℕ) → low ≤ i → i < high → bit_at mask i ≡ 1
  pub below : (i : ℕ) → i < low → bit_at mask i ≡ 0
  pub above : (i : ℕ) → high ≤ i → bit_at mask i ≡ 0

-- the bits from low up to high, which is not among them, have the value, and no other changes
pub record IsWordMarked (low high : ℕ) (value : Bool) (old new : ℕ) : Type 0 where
  pub inside : (i : ℕ) → low ≤ i → i < high → bit_at new i ≡ (if value then 1 else 0)
  pub below : (i : ℕ) → i < low → i < 64 → bit_at new i ≡ bit_at old i
  pub above : (i : ℕ) → high ≤ i → i < 64 → bit_at new i ≡ bit_at old i
