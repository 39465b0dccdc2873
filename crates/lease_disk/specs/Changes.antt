-- The changes that a disk in memory keeps, as its steps (our own).
use Rattle.std.specs.Prelude.{List, reverse, map}
use Rattle.lease_disk.specs.declared.changes.Change.{Change}
use Rattle.lease_disk.specs.declared.changes.Change.TheVariants as change
use Rattle.lease_disk.specs.Steps.{DiskStep}
use Rattle.lease_disk.specs.Steps.DiskStep.{Wrote, CutTo, Synced}

abbrev pub step_of : Change → DiskStep
step_of (change.Wrote place piece) = Wrote place piece.items
step_of (change.CutTo size) = CutTo size
step_of change.Synced = Synced

-- the changes stand in the order made, and the steps latest first
abbrev pub steps_of : List Change → List DiskStep
steps_of changes = reverse (map step_of changes)
