-- Flags of free ports, one for each number of 16 bits (our own; for proofs alone).
use Rattle.std.specs.Prelude.{ℕ, ◌≡◌, ◌<◌, ◌≤◌, Bool, false, true, List, slice_index_or, length, ◌+◌, Option, ◌-◌, not, map, ◌/◌, ◌%◌, ◌*◌, ◌==◌}
use Rattle.port_runs.specs.Ports.{HasParity, Ports}
use Rattle.std.specs.List.{filter, range_with_len}
use Rattle.std.specs.Int.{bit_at}
use Rattle.port_runs.specs.declared.flags.TheConstants.{FLAGS}

-- the flags of words of 64, each from its lowest bit on
unfoldable pub flags_of : List ℕ → List Bool
flags_of words =
    map
    (λ place. bit_at (slice_index_or words (place / 64) 0) (place % 64) == 1)
    (range_with_len 0 (64 * length words))

-- each flag from one place up to another, which is not among them, is set
abbrev pub IsSetBetween : List Bool → ℕ → ℕ → Type 0
IsSetBetween flags from to = (i : ℕ) → from ≤ i → i < to → slice_index_or flags i false ≡ true

-- each flag from one place up to another, which is not among them, has the value, and no other
-- changes
pub record IsMarked (from to : ℕ) (value : Bool) (old new : List Bool) : Type 0 where
  pub same_length : length new ≡ length old
  pub marked : (i : ℕ) → from ≤ i → i < to → slice_index_or new i false ≡ value
  pub below : (i : ℕ) → i < from → slice_index_or new i false ≡ slice_index_or old i false
  pub above : (i : ℕ) → to ≤ i → slice_index_or new i false ≡ slice_index_or old i false

-- the n flags from start on are set, and start has the remainder by 2 that is asked
pub record FitsFlags (flags : List Bool) (n : ℕ) (parity : Option ℕ) (start : ℕ) : Type 0 where
  pub run : IsSetBetween flags start (start + n)
  pub remainder : HasParity parity start

-- and all n lie in the block from a up to b
pub record FitsBlock (flags : List Bool) (a b n : ℕ) (parity : Option ℕ) (start : ℕ) : Type 0 where
  pub fits : FitsFlags flags n parity start
  pub from : a ≤ start
  pub to : start + n ≤ b

-- of the flags for all numbers of 16 bits those from one place up to another, which is not among
-- them, are set, and no other
pub record IsSetAlone (from to : ℕ) (flags : List Bool) : Type 0 where
  pub whole : length flags ≡ FLAGS
  pub set : IsSetBetween flags from to
  pub below : (i : ℕ) → i < from → slice_index_or flags i false ≡ false
  pub above : (i : ℕ) → to ≤ i → slice_index_or flags i false ≡ false

-- so many flags are set from start on, counted up to a limit
pub record IsSetCountAt (flags : List Bool) (start limit count : ℕ) : Type 0 where
  pub most : count ≤ limit
  pub free : IsSetBetween flags start (start + count)
  pub stops : count < limit → slice_index_or flags (start + count) false ≡ false

-- n flags are set from some start on that has the remainder by 2 that is asked
abbrev pub HasSetRun : List Bool → Option ℕ → ℕ → Type 0
HasSetRun flags parity n = (start : ℕ) × FitsFlags flags n parity start

-- the flags are those of ports of the range
pub record AreOfRange (low high : ℕ) (flags : List Bool) : Type 0 where
  pub some : 1 ≤ low
  pub ordered : low ≤ high
  pub small : high < FLAGS
  pub all : length flags ≡ FLAGS
  pub below : (i : ℕ) → i < low → slice_index_or flags i false ≡ false
  pub above : (i : ℕ) → high < i → slice_index_or flags i false ≡ false

-- the range of ports whose free ones are those that are flagged
abbrev pub shown : ℕ → ℕ → List Bool → Ports
shown low high free =
    record {
      low = low;
      high = high;
      taken =
          filter (λ port. not (slice_index_or free port false)) (range_with_len low (high + 1 - low));
    }
