-- The steps of a disk, latest first, and what they leave (our own).
use Rattle.std.specs.Prelude.{◌≡◌, ◌⊎◌, ℕ, ◌≤◌, List, [], ◌∷◌, length, take, replicate, if◌then◌else◌, ◌==◌}
use Rattle.lease_disk.specs.Contents.{after_write}
use Rattle.lease_disk.specs.Images.{Torn, CutOrNot}

pub data DiskStep : Type 0 where
  -- octets were written at a place
  Wrote : ℕ → List ℕ → DiskStep
  -- the octets were cut to a length
  CutTo : ℕ → DiskStep
  Synced : DiskStep

-- the octets after one step more
abbrev pub after_step : DiskStep → List ℕ → List ℕ
after_step (Wrote place piece) octets = after_write octets place piece
after_step (CutTo size) octets = take size octets
after_step Synced octets = octets

-- the octets that a read gives after these steps
abbrev pub octets_after : List DiskStep → List ℕ
octets_after [] = []
octets_after (step ∷ steps) = after_step step (octets_after steps)

-- a crash after these steps may leave this
abbrev pub IsImage : List DiskStep → List ℕ → Type 0
IsImage [] image = image ≡ []
IsImage (Wrote place piece ∷ steps) image =
    (earlier : List ℕ) × IsImage steps earlier × Torn place (length piece) earlier image
IsImage (CutTo size ∷ steps) image =
    (earlier : List ℕ) × IsImage steps earlier × CutOrNot size earlier image
IsImage (Synced ∷ steps) image = image ≡ octets_after steps

-- a crash after the first t of these steps, or after more of them, might have left this
abbrev pub WasImage : List DiskStep → ℕ → List ℕ → Type 0
WasImage [] t image = IsImage [] image
WasImage (step ∷ steps) t image =
    IsImage (step ∷ steps) image ⊎ ((t ≤ length steps) × WasImage steps t image)

-- the steps up to the last sync
abbrev pub up_to_sync : List DiskStep → List DiskStep
up_to_sync [] = []
up_to_sync (Wrote place piece ∷ steps) = up_to_sync steps
up_to_sync (CutTo size ∷ steps) = up_to_sync steps
up_to_sync (Synced ∷ steps) = steps

-- a step with `ff` for each octet that it wrote
abbrev pub with_ff : DiskStep → DiskStep
with_ff (Wrote place piece) = Wrote place (replicate (length piece) 255)
with_ff step = step

-- the steps, with `ff` for each octet that was written since the last sync
abbrev pub with_ff_since_sync : List DiskStep → List DiskStep
with_ff_since_sync [] = []
with_ff_since_sync (Wrote place piece ∷ steps) = with_ff (Wrote place piece) ∷ with_ff_since_sync steps
with_ff_since_sync (CutTo size ∷ steps) = CutTo size ∷ with_ff_since_sync steps
with_ff_since_sync (Synced ∷ steps) = steps

-- One of the images: at 0 the octets of the last sync, at 1 those that a read gives, else those that
-- a read gives with `ff` for each octet that was written since the last sync.
abbrev pub image_by : List DiskStep → ℕ → List ℕ
image_by steps choice =
    if choice == 0 then octets_after (up_to_sync steps)
    else if choice == 1 then octets_after steps
    else octets_after (with_ff_since_sync steps)
