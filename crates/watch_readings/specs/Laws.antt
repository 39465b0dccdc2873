-- The laws of readings (our own).
use Rattle.std.specs.Prelude.{◌≡◌, ℕ, List, ⊤}
use Rattle.journal_dump.specs.Readings.{JournalReading, IsReadingOf}
use Rattle.journal_dump.specs.Readings.JournalReading.{Recovered}
use Rattle.watch_lines.specs.declared.doubts.Doubt.TheVariants.{Blank, Damaged, Unsettled}
use Rattle.watch_readings.specs.Readings.{OnceReading, IsOnceReadingOf}
use Rattle.watch_readings.specs.Readings.OnceReading.{Counts, Doubtful}

-- the two say the same
abbrev pub SaySame : JournalReading → OnceReading → Type 0
SaySame (Recovered s) (Counts generation t) = t ≡ s
SaySame (Recovered s) (Doubtful doubt) = ⊥
SaySame JournalReading.Blank (Counts generation t) = ⊥
SaySame JournalReading.Blank (Doubtful Blank) = ⊤
SaySame JournalReading.Blank (Doubtful Damaged) = ⊥
SaySame JournalReading.Blank (Doubtful Unsettled) = ⊥
SaySame JournalReading.Damaged (Counts generation t) = ⊥
SaySame JournalReading.Damaged (Doubtful Blank) = ⊥
SaySame JournalReading.Damaged (Doubtful Damaged) = ⊤
SaySame JournalReading.Damaged (Doubtful Unsettled) = ⊥

-- What a dump reads of two sides, and what is read of them once, say the same.
abbrev pub OnceIsDump : Type 0
OnceIsDump = (a b : List ℕ) (dumped : JournalReading) (once : OnceReading) →
    IsReadingOf a b dumped → IsOnceReadingOf a b once → SaySame dumped once
