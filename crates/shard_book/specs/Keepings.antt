-- Keeping records in a book: a batch's, or a Lose (our own).
use Rattle.std.specs.Prelude.{◌≡◌, ◌≤◌, ◌<◌, ◌+◌, ◌*◌, ◌-◌, ◌^◌, ◌⊎◌, ◌&&◌, ℕ, max, nat_lt, Bool, false, List, [], ◌∷◌, length, if◌then◌else◌, Some, None}
use Rattle.pcp_base.specs.declared.asks.Ask.{Ask}
use Rattle.pcp_base.specs.declared.records.Change.TheVariants.{Lose}
use Rattle.pcp_base.specs.declared.records.Record.{Record}
use Rattle.pcp_base.specs.Apply.{apply_all}
use Rattle.lease_core.specs.Decide.{decide}
use Rattle.lease_store.specs.Lookups.{lease_count}
use Rattle.lease_disk.specs.Pairs.{PairLeavesOnly}
use Rattle.journal_sides.specs.declared.errors.JournalFault.{JournalFault}
use Rattle.journal_sides.specs.declared.errors.JournalFault.TheVariants.{Disk, Memory}
use Rattle.journal_sides.specs.Frames.{frames_octets}
use Rattle.journal_sides.specs.Journals.{StandsForWithOrWithout}
use Rattle.journal_sides.specs.Writes.{of_side, other}
use Rattle.lease_journal.specs.Views.{JournalView}
use Rattle.shard_book.specs.declared.batches.Answered.{Answered}
use Rattle.shard_book.specs.declared.batches.DatedAnswer.{DatedAnswer}
use Rattle.shard_book.specs.declared.lengths.TheConstants.{LONGEST_SIDE}
use Rattle.shard_book.specs.declared.standings.Settled.{Settled}
use Rattle.shard_book.specs.Batches.{answer_at, answers_at, decide_all, records_kept, dated_of}
use Rattle.shard_book.specs.Books.{BookView}
use Rattle.shard_book.specs.Settlings.{KeepsDoubt, Settles}

-- the records are in the journal, and were at m
pub record Keeps {D : Type 0} (tells : Type 0) (moment : D → ℕ)
    (left_since : D → ℕ → List ℕ → Type 0) (may_leave : D → List ℕ → Type 0) (m : ℕ)
    (records : List Record) (old new : BookView D) : Type 0 where
  pub state : new.state ≡ apply_all old.state records
  pub last : new.last ≡ m
  pub terms : new.terms ≡ old.terms
  pub renumbered : new.renumbered ≡ old.renumbered
  pub fault : new.fault ≡ None
  pub sure : new.unsure ≡ []
  -- all of them or none, at each moment
  pub moments : tells → PairLeavesOnly moment left_since may_leave old.journal.pair
      new.journal.pair (StandsForWithOrWithout old.state records)

-- after `Disk` the journal has all the records or none; after `Memory` it has none
abbrev pub unsure_after : JournalFault → List Record → List Record
unsure_after Disk records = records
unsure_after Memory records = []

-- the records may be in the journal
pub record Doubts {D : Type 0} (tells : Type 0) (moment : D → ℕ)
    (left_since : D → ℕ → List ℕ → Type 0) (may_leave : D → List ℕ → Type 0)
    (records : List Record) (old new : BookView D) (fault : JournalFault) : Type 0 where
  pub same : new ≡ record old {
    fault = Some fault;
    unsure = unsure_after fault records;
    journal = new.journal;
  }
  pub moments : tells → PairLeavesOnly moment left_since may_leave old.journal.pair
      new.journal.pair (StandsForWithOrWithout old.state (unsure_after fault records))

-- A call that keeps records was refused: in its settling, or after that.
abbrev pub IsRefused : {D : Type 0} → (tells : Type 0) → (moment : D → ℕ)
    → (left_since : D → ℕ → List ℕ → Type 0) → (may_leave : D → List ℕ → Type 0) → (now : ℕ)
    → (records : BookView D → List Record) → (old new : BookView D) → JournalFault → Type 0
IsRefused tells moment left_since may_leave now records old new fault =
    KeepsDoubt tells moment left_since may_leave old new
    ⊎ ((mid : BookView _) × (settled : Settled)
    × Settles tells moment left_since may_leave now old mid settled
    × Doubts tells moment left_since may_leave (records mid) mid new fault)

-- ---- a batch

-- what a batch at `now` keeps
abbrev pub batch_records : {D : Type 0} → ℕ → List Ask → BookView D → List Record
batch_records now asks book =
    records_kept (decide_all book.terms book.state (max now book.last) asks)

abbrev pub batch_answers : {D : Type 0} → (now base : ℕ) → List Ask → BookView D → List Answered
batch_answers now base asks book =
    answers_at (max now book.last) (max base book.state.base)
    (decide_all book.terms book.state (max now book.last) asks)

-- a journal that is compacted before a batch
abbrev pub is_overlong : {D : Type 0} → JournalView D → Bool
is_overlong journal = nat_lt LONGEST_SIDE journal.standing.length
    && nat_lt (2 * journal.first_length) journal.standing.length
    && nat_lt journal.standing.generation (2 ^ 64 - 1)

-- the side beside the one that counted is as it was
abbrev pub IsBeside : {D : Type 0} → (D → List ℕ) → JournalView D → JournalView D → Type 0
IsBeside seen old new = of_side (other old.side) (seen new.pair.a) (seen new.pair.b)
    ≡ of_side (other old.side) (seen old.pair.a) (seen old.pair.b)

-- the records were appended to a journal, if there are any
pub record IsAppended {D : Type 0} (tells : Type 0) (seen : D → List ℕ) (records : List Record)
    (old new : JournalView D) : Type 0 where
  pub idle : records ≡ [] → new ≡ old
  pub side : new.side ≡ old.side
  pub generation : new.standing.generation ≡ old.standing.generation
  pub first_length : new.first_length ≡ old.first_length
  pub beside : tells → IsBeside seen old new
  pub grown : tells → new.standing.length ≤ old.standing.length + frames_octets records

-- what a batch does to the journal
pub record Journals {D : Type 0} (tells : Type 0) (records : List Record)
    (old new : JournalView D) : Type 0 where
  -- without records nothing is done but to compact it
  pub idle : records ≡ [] → is_overlong old ≡ false → new ≡ old
  pub generation : new.standing.generation
      ≡ (if is_overlong old then old.standing.generation + 1 else old.standing.generation)
  pub first_length : is_overlong old ≡ false → new.first_length ≡ old.first_length
  -- less the batch's frames it isn't too long
  pub short : tells → old.standing.generation < 2 ^ 64 - 1 →
      new.standing.length ≤ frames_octets records + max LONGEST_SIDE (2 * new.first_length)

-- the batch is answered, after the book was settled
pub record Serves {D : Type 0} (tells : Type 0) (moment : D → ℕ)
    (left_since : D → ℕ → List ℕ → Type 0) (may_leave : D → List ℕ → Type 0) (now base : ℕ)
    (asks : List Ask) (old new : BookView D) (answers : List Answered) : Type 0 where
  pub mid : BookView D
  pub settled : Settled
  pub settles : Settles tells moment left_since may_leave now old mid settled
  pub answered : answers ≡ batch_answers now base asks mid
  pub keeps : Keeps tells moment left_since may_leave (max now mid.last)
      (batch_records now asks mid) mid new
  pub journal : Journals tells (batch_records now asks mid) mid.journal new.journal

-- what an ask at `now` is answered, with this base
abbrev pub dated_answer : {D : Type 0} → (now base : ℕ) → Ask → BookView D → DatedAnswer
dated_answer now base ask book = dated_of (answer_at (max now book.last) (max base book.state.base)
    (decide book.terms book.state (max now book.last) ask))

-- one ask is answered as a batch that has no other, after the book was settled
pub record ServesOne {D : Type 0} (tells : Type 0) (moment : D → ℕ)
    (left_since : D → ℕ → List ℕ → Type 0) (may_leave : D → List ℕ → Type 0) (now base : ℕ)
    (ask : Ask) (old new : BookView D) (answer : DatedAnswer) : Type 0 where
  pub mid : BookView D
  pub settled : Settled
  pub settles : Settles tells moment left_since may_leave now old mid settled
  pub answered : answer ≡ dated_answer now base ask mid
  pub keeps : Keeps tells moment left_since may_leave (max now mid.last)
      (batch_records now (ask ∷ []) mid) mid new
  pub journal : Journals tells (batch_records now (ask ∷ []) mid) mid.journal new.journal

-- ---- a loss

abbrev pub lose_records : {D : Type 0} → ℕ → BookView D → List Record
lose_records now book = record { moment = max now book.last; change = Lose } ∷ []

-- the leases are lost, after the book was settled
pub record Loses {D : Type 0} (tells : Type 0) (moment : D → ℕ)
    (left_since : D → ℕ → List ℕ → Type 0) (may_leave : D → List ℕ → Type 0) (now : ℕ)
    (old new : BookView D) (count : ℕ) : Type 0 where
  pub mid : BookView D
  pub settled : Settled
  pub settles : Settles tells moment left_since may_leave now old mid settled
  -- those that were live
  pub counted : count ≡ lease_count mid.state.table (max now mid.last)
  pub keeps : Keeps tells moment left_since may_leave (max now mid.last)
      (lose_records now mid) mid new
  -- it isn't compacted
  pub generation : new.journal.standing.generation ≡ mid.journal.standing.generation
