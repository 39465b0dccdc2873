-- How runs are kept: in a slab, and for each place there is a number that names the run that has it
-- (our own; for proofs alone).
use Rattle.std.specs.Prelude.{◌≡◌, ℕ, zero, suc, ◌+◌, ◌≤◌, true, List, length, Option, Some, None, slice_index_or}
use Rattle.slab.specs.Slab.{Slab, get}
use Rattle.port_spans.specs.declared.runs.Run.{Run}
use Rattle.port_spans.specs.declared.runs.TheConstants.{PLACES}
use Rattle.port_spans.specs.Runs.{has_place}

-- the number at a place, 0 behind all
abbrev pub slot_at : List ℕ → ℕ → ℕ
slot_at slots at = slice_index_or slots at 0

-- the key that a number names
abbrev pub key_of : ℕ → Option ℕ
key_of zero = None
key_of (suc key) = Some key

module _ {V : Type 0} where
  -- a place has the number of the run that has it, and each run has places, all below the last
  pub record AreKept (slots : List ℕ) (runs : Slab (Run V)) : Type 0 where
    pub places : length slots ≡ PLACES
    pub named : (at key : ℕ) → slot_at slots at ≡ suc key
        → (r : Run V) × (get runs key ≡ Some r) × (has_place at r ≡ true)
    pub has : (at key : ℕ) (r : Run V) → get runs key ≡ Some r → has_place at r ≡ true
        → slot_at slots at ≡ suc key
    pub some : (key : ℕ) (r : Run V) → get runs key ≡ Some r → 1 ≤ r.count
    pub small : (key : ℕ) (r : Run V) → get runs key ≡ Some r → r.first + r.count ≤ PLACES
