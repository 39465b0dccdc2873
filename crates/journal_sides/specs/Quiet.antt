-- What stays where no disk failed (our own).
use Rattle.std.specs.Prelude.{◌≡◌, Result, Err, OnOk}
use Rattle.journal_sides.specs.declared.errors.JournalFault.{JournalFault}
use Rattle.journal_sides.specs.declared.errors.JournalFault.TheVariants.{Memory}

-- this holds after each answer but `Disk`
pub record UnlessDisk {T : Type 0} (result : Result T JournalFault) (holds : Type 0) : Type 0 where
  pub done : OnOk result holds
  pub starved : result ≡ Err Memory → holds
