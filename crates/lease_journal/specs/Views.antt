-- A journal as contracts see it (our own).
use Rattle.std.specs.Prelude.{◌≡◌, ℕ, Bool, List}
use Rattle.pcp_base.specs.declared.records.Record.{Record}
use Rattle.pcp_base.specs.States.{State}
use Rattle.lease_disk.specs.declared.disks.DiskPair.{DiskPair}
use Rattle.journal_sides.specs.declared.formats.Format.TheVariants.{Second}
use Rattle.journal_sides.specs.declared.sides.Side.{Side}
use Rattle.journal_sides.specs.declared.walks.Standing.{Standing}
use Rattle.journal_sides.specs.Frames.{records_of}
use Rattle.journal_sides.specs.Settled.{IsSettledBy}
use Rattle.journal_sides.specs.Shut.{AreFull}
use Rattle.journal_sides.specs.Sides.{IsOpenSide}

pub record JournalView (D : Type 0) : Type 0 where
  pub pair : DiskPair D
  -- the side that counts, and what it is
  pub side : Side
  pub standing : Standing
  -- how long that side was when the journal was last opened or compacted
  pub first_length : ℕ
  -- a call has failed, and the journal is to be read again
  pub unread : Bool

-- nothing is in doubt, and the journal stands for s
abbrev pub IsSettled : {D : Type 0} → (D → List ℕ) → (D → List ℕ → Type 0) → JournalView D
    → State → Type 0
IsSettled seen may_leave journal s =
    IsSettledBy seen may_leave journal.side journal.standing journal.pair s

-- a side that is open with these records, in frames that are full but for the last
pub record IsFilled (parity generation : ℕ) (records : List Record) (octets : List ℕ)
    : Type 0 where
  pub batches : List (List Record)
  pub opened : IsOpenSide Second parity octets generation batches
  pub full : AreFull batches
  pub holds : records_of batches ≡ records
