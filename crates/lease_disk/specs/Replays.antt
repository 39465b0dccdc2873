-- What a disk in memory keeps, and how it makes an image: it makes the steps again from the first on
-- (our own).
use Rattle.std.specs.Prelude.{◌≡◌, ℕ, ◌+◌, ◌^◌, ◌≤◌, ⊤, List, [], ◌∷◌, length, nat_lt, if◌then◌else◌}
use Rattle.lease_disk.specs.Steps.{DiskStep, octets_after, with_ff}
use Rattle.lease_disk.specs.Steps.DiskStep.{Wrote, CutTo, Synced}

-- how many steps end with the last sync
abbrev pub synced_count : List DiskStep → ℕ
synced_count [] = 0
synced_count (Wrote place piece ∷ steps) = synced_count steps
synced_count (CutTo size ∷ steps) = synced_count steps
synced_count (Synced ∷ steps) = length steps + 1

-- the steps, those from this number on with `ff` for each octet that was written
abbrev pub with_ff_from : ℕ → List DiskStep → List DiskStep
with_ff_from plain [] = []
with_ff_from plain (step ∷ steps) =
    (if nat_lt (length steps) plain then step else with_ff step) ∷ with_ff_from plain steps

-- each write ends within the room
abbrev pub FitRoom : ℕ → List DiskStep → Type 0
FitRoom room [] = ⊤
FitRoom room (Wrote place piece ∷ steps) = (place + length piece ≤ room) × FitRoom room steps
FitRoom room (CutTo size ∷ steps) = FitRoom room steps
FitRoom room (Synced ∷ steps) = FitRoom room steps

-- the octets are those that the steps make, and all of it is within the room
pub record IsMadeBy (steps : List DiskStep) (room : ℕ) (octets : List ℕ) : Type 0 where
  pub made : octets ≡ octets_after steps
  pub within : length octets ≤ room
  pub most : room ≤ 2 ^ 62
  pub fit : FitRoom room steps
