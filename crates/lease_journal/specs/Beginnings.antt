-- A side that is written anew (our own).
use Rattle.std.specs.Prelude.{◌≡◌, ◌⊎◌, ◌<◌, ℕ, Bool, true, false, List, length, get_or}
use Rattle.pcp_base.specs.declared.records.Record.{Record}
use Rattle.journal_sides.specs.declared.layout.TheConstants.{SHORTEST_SIDE}
use Rattle.journal_sides.specs.declared.formats.Format.TheVariants.{Second}
use Rattle.journal_sides.specs.declared.sides.Side.{Side}
use Rattle.journal_sides.specs.Shut.{IsShut}
use Rattle.journal_sides.specs.Sides.{IsOpenSide, IsClosedSide}
use Rattle.journal_sides.specs.Writes.{of_side, other, side_parity}
use Rattle.lease_journal.specs.Openings.{IsFrontWritten}

-- in the middle of it: what it was, closed, or open with these batches
abbrev pub MayBegin : ℕ → ℕ → List (List Record) → List ℕ → List ℕ → Type 0
MayBegin parity generation batches old new =
    (new ≡ old) ⊎ (IsClosedSide new ⊎ IsOpenSide Second parity new generation batches)

-- while its gate is shut: what it was, or closed
abbrev pub MayShut : List ℕ → List ℕ → Type 0
MayShut old new = (new ≡ old) ⊎ IsClosedSide new

-- whether a gate that isn't open stands in front of a side; else none stands there, or an open one
abbrev pub GateMeans : List ℕ → Bool → Type 0
GateMeans octets true = IsShut octets
GateMeans octets false = (length octets < SHORTEST_SIDE) ⊎ (get_or octets 0 0 ≡ 1)

-- this side of what was a and b was written in front, is shut, and has so many octets
pub record IsPrepared (side : Side) (size : ℕ) (a b x y : List ℕ) : Type 0 where
  pub front : IsFrontWritten (of_side side a b) (of_side side x y)
  pub shut : IsShut (of_side side x y)
  pub long : size ≡ length (of_side side x y)
  pub unchanged : of_side (other side) x y ≡ of_side (other side) a b

-- this side of what was a and b is open with these batches, and has so many octets
pub record IsBegun (side : Side) (size generation : ℕ) (batches : List (List Record))
    (a b x y : List ℕ) : Type 0 where
  pub opened : IsOpenSide Second (side_parity side) (of_side side x y) generation batches
  pub long : size ≡ length (of_side side x y)
  pub unchanged : of_side (other side) x y ≡ of_side (other side) a b
