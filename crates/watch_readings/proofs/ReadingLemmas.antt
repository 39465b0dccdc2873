-- What is read once is what a dump reads.
use Rattle.std.proofs.Common.{◌≡◌, ℕ, List, Option, Some, None, refl, sym, subst}
use Rattle.std.specs.Bool.{⊤}
use Rattle.pcp_base.specs.declared.configs.External.{External}
use Rattle.pcp_base.specs.Reached.{IsReached, IsReachedFirst}
use Rattle.pcp_base.specs.States.{State}
use Rattle.lease_journal.proofs.StandingLaws.{stands_for}
use Rattle.journal_sides.specs.declared.judging.Verdict.{Verdict}
use Rattle.journal_sides.specs.declared.judging.Verdict.TheVariants.{Counting, Neither, Broken}
use Rattle.journal_sides.specs.declared.formats.Format.{Format}
use Rattle.journal_sides.specs.declared.formats.Format.TheVariants.{First, Second}
use Rattle.journal_sides.specs.Formats.{IsReplaying}
use Rattle.journal_sides.specs.Laws.{OneState, RecoveredAlone, BlankIsWhole}
use Rattle.journal_sides.specs.Verdicts.{AreFound, IsFoundReplaying}
use Rattle.journal_dump.specs.Readings.{JournalReading}
use Rattle.journal_dump.specs.Readings.JournalReading.{Recovered}
use Rattle.watch_lines.specs.declared.doubts.Doubt.TheVariants.{Blank, Damaged, Unsettled}
use Rattle.watch_readings.specs.Laws.{OnceIsDump}
use Rattle.watch_readings.specs.declared.readings.Told.{Told}
use Rattle.watch_readings.specs.Readings.{IsOnceReadingOf, IsReachedBy, IsReadOf, IsToldAs, IsToldBy, IsToldOf, once_reading_of}
use Rattle.watch_readings.specs.Readings.OnceReading.{Counts, Doubtful}

pub once-is_dump : OneState → RecoveredAlone → BlankIsWhole → OnceIsDump
once-is_dump one alone whole a b (Recovered s) (Counts generation t) dumped (side, standing, is, same) = one a b t s (stands_for side standing t a b is) dumped
once-is_dump one alone whole a b (Recovered s) (Doubtful Blank) (format, records, stands, state) is = (alone a b format records stands).0 is
once-is_dump one alone whole a b (Recovered s) (Doubtful Damaged) (format, records, stands, state) is = (alone a b format records stands).1 is
once-is_dump one alone whole a b (Recovered s) (Doubtful Unsettled) dumped is = is
once-is_dump one alone whole a b JournalReading.Blank (Counts generation t) dumped (side, standing, is, same) =
    let (format, records, stands, state) = stands_for side standing t a b is in (alone a b format records stands).0 dumped
once-is_dump one alone whole a b JournalReading.Blank (Doubtful Blank) dumped is = tt
once-is_dump one alone whole a b JournalReading.Blank (Doubtful Damaged) dumped is = whole a b dumped is
once-is_dump one alone whole a b JournalReading.Blank (Doubtful Unsettled) dumped is = is
once-is_dump one alone whole a b JournalReading.Damaged (Counts generation t) dumped (side, standing, is, same) =
    let (format, records, stands, state) = stands_for side standing t a b is in (alone a b format records stands).1 dumped
once-is_dump one alone whole a b JournalReading.Damaged (Doubtful Blank) dumped is = whole a b is dumped
once-is_dump one alone whole a b JournalReading.Damaged (Doubtful Damaged) dumped is = tt
once-is_dump one alone whole a b JournalReading.Damaged (Doubtful Unsettled) dumped is = is

-- what was judged is read so
pub found_reads : (a b : List ℕ) (s : State) (verdict : Verdict) → AreFound a b s verdict → IsOnceReadingOf a b (once_reading_of verdict s)
found_reads a b s (Counting side standing) is = (side, standing, is, refl)
found_reads a b s Neither is = is
found_reads a b s (Broken judged_a judged_b) is = is.damaged

-- what a replay has reached that takes records of a format
reached_by : {S : Type 0} (state : S → State) (reached : S → ℕ) (replaying replaying_first : S → Type 0)
    → ((core : S) → replaying core → IsReached (state core)) → ((core : S) → replaying_first core → IsReachedFirst (state core)) → (format : Format) (core : S)
    → IsReplaying format (λ (x : S). replaying x × (reached x ≡ (state x).last)) (λ (x : S). replaying_first x × (reached x ≡ (state x).last)) core → IsReached (state core)
reached_by state reached replaying replaying_first made made_first First core is = (made_first core is.0).reached
reached_by state reached replaying replaying_first made made_first Second core is = made core is.0

pub verdict_reached : {S : Type 0} (state : S → State) (reached : S → ℕ) (replaying replaying_first : S → Type 0)
    → ((core : S) → replaying core → IsReached (state core)) → ((core : S) → replaying_first core → IsReachedFirst (state core)) → (verdict : Verdict) (core : S)
    → IsFoundReplaying (λ (x : S). replaying x × (reached x ≡ (state x).last)) (λ (x : S). replaying_first x × (reached x ≡ (state x).last)) core verdict
    → IsReachedBy verdict (state core)
verdict_reached state reached replaying replaying_first made made_first (Counting side standing) core is =
    reached_by state reached replaying replaying_first made made_first standing.format core is
verdict_reached state reached replaying replaying_first made made_first Neither core is = tt
verdict_reached state reached replaying replaying_first made made_first (Broken judged_a judged_b) core is = tt

-- ---- what is told

pub told_as : (tells : Type 0) (a b : List ℕ) (e : External) (shard time : ℕ) (s : State) (verdict : Verdict) (told : Told)
    → (tells → AreFound a b s verdict) → IsToldOf e shard time (once_reading_of verdict s) told → IsToldAs tells a b e shard time told
told_as tells a b e shard time s verdict told found is = record {
  reading = once_reading_of verdict s;
  of_pair = λ told. found_reads a b s verdict (found told);
  tells_it = is;
}

pub told_still : (tells : Type 0) (x y a b : List ℕ) (e : External) (shard time : ℕ) (told : Told) → x ≡ a → y ≡ b
    → IsToldAs tells x y e shard time told → IsToldAs tells a b e shard time told
told_still tells x y a b e shard time told same_a same_b is =
    subst (λ l. IsToldAs tells l b e shard time told) same_a (subst (λ l. IsToldAs tells x l e shard time told) same_b is)

pub told_settled : (sides : Option (List ℕ × List ℕ)) (both : List ℕ × List ℕ) (e : External) (shard time : ℕ) (told : Told) → sides ≡ Some both
    → IsToldAs ⊤ both.0 both.1 e shard time told → IsToldBy sides e shard time told
told_settled sides both e shard time told same is = record {
  reading = is.reading;
  of_sides = subst (λ o. IsReadOf o is.reading) (sym same) (is.of_pair tt);
  tells_it = is.tells_it;
}

pub told_unsettled : (sides : Option (List ℕ × List ℕ)) (e : External) (shard time : ℕ) (told : Told) → sides ≡ None
    → IsToldOf e shard time (Doubtful Unsettled) told → IsToldBy sides e shard time told
told_unsettled sides e shard time told same is = record {
  reading = Doubtful Unsettled;
  of_sides = subst (λ o. IsReadOf o (Doubtful Unsettled)) (sym same) refl;
  tells_it = is;
}
