-- The history of an index, and what is read of it (our own).
use Rattle.std.specs.Prelude.{◌≡◌, ℕ, ◌==◌, ⊤, true, List, [], ◌∷◌, ◌++◌, length, MatchBool}
use Rattle.logbook.specs.Pages.{Cell, Step, View, Book, Named}
use Rattle.pcp_base.specs.declared.leases.MapLease.{MapLease}
use Rattle.pcp_base.specs.declared.leases.PeerLease.{PeerLease}
use Rattle.pcp_base.specs.declared.records.Record.{Record}
use Rattle.pcp_base.specs.States.{State, empty_state}
use Rattle.pcp_base.specs.Apply.{apply_all}
use Rattle.lane_index.specs.Lanes.{opening_state}
use Rattle.lane_index.specs.declared.history.OpeningLeases.{OpeningLeases}
use Rattle.lane_index.specs.declared.history.HistoryEntry.{HistoryEntry}
use Rattle.lane_index.specs.declared.history.HistoryEntry.TheVariants.{Began, Added}

-- a beginning of the history of an index, which is a book
pub record IndexHistory : Type 0 where
  pub index : Book
  pub log : List HistoryEntry

-- the rule of a history: the first word is its length. A book has two words, of which the second
-- stays 0
pub record IsLengthCounted (cells : List Cell) (log : List HistoryEntry) : Type 0 where
  pub words : cells ≡ (length log, true) ∷ (0, true) ∷ []

abbrev pub word_head : Book → Named
word_head b = record { tracked = true; key = 0; book = b }

-- the entries were added to all that had been seen, where the word found is the one expected
abbrev pub Adds : List HistoryEntry → Step HistoryEntry → View HistoryEntry ℕ → ℕ
    → View HistoryEntry ℕ → Type 0
Adds entries s v found w = MatchBool (found == s.old) (w.0 ≡ v.0 ++ entries) (Unit {0})

-- the number found is the length of the whole history, all of which was then seen
abbrev pub TellsLength : Step HistoryEntry → View HistoryEntry ℕ → ℕ → View HistoryEntry ℕ → Type 0
TellsLength s v found w = found ≡ length w.0

abbrev pub opening_leases : List MapLease → List PeerLease → ℕ → OpeningLeases
opening_leases maps peers last = record { maps = maps; peers = peers; last = last }

abbrev pub only_opening : List MapLease → List PeerLease → ℕ → List HistoryEntry
only_opening maps peers last = Began (opening_leases maps peers last) ∷ []

-- the state that the history begins with
abbrev pub opening_in : List HistoryEntry → State
opening_in [] = empty_state
opening_in (Began o ∷ es) = opening_state o.maps o.peers o.last
opening_in (Added r ∷ es) = opening_in es

-- its records
abbrev pub added_in : List HistoryEntry → List Record
added_in [] = []
added_in (Began o ∷ es) = added_in es
added_in (Added r ∷ es) = r ∷ added_in es

-- the state that it leaves
abbrev pub state_left : List HistoryEntry → State
state_left log = apply_all (opening_in log) (added_in log)

-- it begins with what the index began with
abbrev pub HasBeginning : List HistoryEntry → Type 0
HasBeginning [] = ⊥
HasBeginning (Began o ∷ es) = ⊤
HasBeginning (Added r ∷ es) = ⊥
