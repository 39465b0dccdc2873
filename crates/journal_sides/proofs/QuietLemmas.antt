-- What stays where no disk failed.
use Rattle.std.proofs.Common.{◌≡◌, ℕ, Result}
use Rattle.std.proofs.lemmas.Result.{on_ok_weaker}
use Rattle.lease_disk.specs.declared.disks.DiskPair.{DiskPair}
use Rattle.lease_disk.specs.Pairs.{PairIsQuiet}
use Rattle.lease_disk.proofs.PairLemmas.{quiet_on}
use Rattle.journal_sides.specs.declared.errors.JournalFault.{JournalFault}
use Rattle.journal_sides.specs.Quiet.{UnlessDisk}

pub unless_weaker : {T A B : Type 0} (result : Result T JournalFault) → (A → B) → UnlessDisk result A → UnlessDisk result B
unless_weaker result f was = record { done = on_ok_weaker result f was.done; starved = λ is. f (was.starved is) }

-- the counts stand still in two calls, unless the second one answers `Disk`
pub quiet_unless : {D T : Type 0} (faults : D → ℕ) (old mid new : DiskPair D) (result : Result T JournalFault) → PairIsQuiet faults old mid
    → UnlessDisk result (PairIsQuiet faults mid new) → UnlessDisk result (PairIsQuiet faults old new)
quiet_unless faults old mid new result one = unless_weaker result (quiet_on faults old mid new one)
