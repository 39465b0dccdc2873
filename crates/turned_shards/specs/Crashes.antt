-- What a crash leaves of an external address, at each moment since it was opened (our own).
use Rattle.std.specs.Prelude.{◌≡◌, ◌⊎◌, ◌+◌, ℕ, true, List, ◌++◌, length, map, Some}
use Rattle.std.specs.List.{slice_get}
use Rattle.pcp_base.specs.declared.datagrams.Entry.{Entry}
use Rattle.pcp_base.specs.States.{State}
use Rattle.lease_disk.specs.Pairs.{PairLeavesOnly}
use Rattle.journal_sides.specs.declared.errors.JournalFault.TheVariants.{Disk}
use Rattle.journal_sides.specs.Journals.{StandsFor as StandsForState}
use Rattle.shard_book.specs.Books.{BookView}
use Rattle.lease_histories.specs.Entries.{Served}
use Rattle.lease_histories.specs.Legal.{IsLegal, state_after}
use Rattle.turned_shards.specs.declared.marks.Mark.{Mark}
use Rattle.turned_shards.specs.FaultCounts.{ends_in_fault}

-- The first entries of a history end in a fault, and these were in doubt behind it. One list for each
-- entry of the history, in order, says what was when that was noted.
pub record IsInDoubt (x : Served) (opening : State) (doubts : List (List Entry))
    (first doubt : List Entry) : Type 0 where
  pub fault : ends_in_fault first ≡ true
  pub earlier : ℕ
  pub last : length first ≡ earlier + 1
  pub there : slice_get doubts earlier ≡ Some doubt
  pub legal : IsLegal x opening (first ++ doubt)

-- sides that hold a and b stand for the state after these entries, or for that after these and what
-- was in doubt behind them
abbrev pub StandsBehind : Served → State → List (List Entry) → List Entry → List ℕ → List ℕ → Type 0
StandsBehind x opening doubts first a b =
    StandsForState (state_after opening first) a b
    ⊎ ((doubt : List Entry) × IsInDoubt x opening doubts first doubt
    × StandsForState (state_after opening (first ++ doubt)) a b)

-- so it is after some first entries of the history
pub record StandsAlong (x : Served) (opening : State) (doubts : List (List Entry))
    (log : List Entry) (a b : List ℕ) : Type 0 where
  pub first : List Entry
  pub more : List Entry
  pub log_is : log ≡ first ++ more
  pub stands : StandsBehind x opening doubts first a b

-- what was in doubt when the entries with these marks were noted
abbrev pub doubts_in : {D : Type 0} → List (Mark D) → List (List Entry)
doubts_in marks = map (λ m. m.doubt) marks

-- So it was of each two images of the pair, at each moment since the book was opened: the marks tell
-- what was in doubt. What is in doubt now is in doubt behind the whole history.
pub record IsKeptSince {D : Type 0} (tells : Type 0) (moment : D → ℕ)
    (left_since : D → ℕ → List ℕ → Type 0) (may_leave : D → List ℕ → Type 0) (x : Served)
    (opened book : BookView D) (doubt log : List Entry) (marks : List (Mark D)) : Type 0 where
  pub one_each : length marks ≡ length log
  pub now : book.fault ≡ Some Disk → IsInDoubt x opened.state (doubts_in marks) log doubt
  pub moments : tells → PairLeavesOnly moment left_since may_leave opened.journal.pair
      book.journal.pair (StandsAlong x opened.state (doubts_in marks) log)
