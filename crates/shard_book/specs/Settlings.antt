-- Settling a book: its journal is read again after a refused call (our own).
use Rattle.std.specs.Prelude.{◌≡◌, ◌≢◌, ◌≤◌, ◌⊎◌, ℕ, max, List, [], ⊤, true, Option, Some, None, IsSome}
use Rattle.pcp_base.specs.declared.addresses.Address.{Address}
use Rattle.pcp_base.specs.declared.records.Change.TheVariants.{Start, Lose}
use Rattle.pcp_base.specs.declared.records.Record.{Record}
use Rattle.pcp_base.specs.Snapshots.{snapshot}
use Rattle.pcp_base.specs.States.{State}
use Rattle.pcp_base.specs.Tables.{empty_table}
use Rattle.lease_disk.specs.Pairs.{PairLeavesOnly}
use Rattle.journal_sides.specs.declared.errors.JournalFault.{JournalFault}
use Rattle.journal_sides.specs.declared.errors.JournalFault.TheVariants.{Disk}
use Rattle.journal_sides.specs.Journals.{StandsForWithOrWithout, fresh_state}
use Rattle.shard_book.specs.declared.standings.Settled.{Settled}
use Rattle.shard_book.specs.declared.standings.Standing.{Standing}
use Rattle.shard_book.specs.declared.standings.Standing.TheVariants.{Clean, In, Out, Fresh}
use Rattle.shard_book.specs.Addresses.{renumber_at, state_anew}
use Rattle.shard_book.specs.Books.{BookView, with_unsure}

-- What was refused: the fault, and the states without and with the records of the call.
pub record Refused : Type 0 where
  pub fault : Option JournalFault
  pub without : State
  pub with_ : State

-- no call was
pub record IsClean (refused : Refused) (state : State) (address : Option Record) : Type 0 where
  pub settled : refused.fault ≡ None
  pub same : state ≡ refused.without
  pub unnamed : address ≡ None

-- the call answered `Disk`, and its records are in the journal
pub record IsIn (refused : Refused) (state : State) (address : Option Record) : Type 0 where
  pub fault : refused.fault ≡ Some Disk
  pub same : state ≡ refused.with_
  pub unnamed : address ≡ None

-- they aren't, and the journal stands for the state without them
pub record IsOut (refused : Refused) (state : State) (address : Option Record) : Type 0 where
  pub fault : IsSome refused.fault
  pub not_in : refused.fault ≡ Some Disk → state ≢ refused.with_
  pub same : state ≡ refused.without
  pub unnamed : address ≡ None

-- A state that is found begins anew with this record: a Start that the reading made, or a Lose.
pub record BeginsAnew (m : ℕ) (found : State) (r : Record) : Type 0 where
  pub begins : ((r.change ≡ Start) × (found ≡ fresh_state r.moment)) ⊎ (r.change ≡ Lose)
  pub no_sooner : m ≤ r.moment
  pub later : found.last ≤ r.moment

-- the journal stood for neither state: it begins anew at m or later, and is told the address
pub record IsAnew (m : ℕ) (configured : Address) (refused : Refused) (state : State)
    (address : Option Record) (r : Record) : Type 0 where
  pub fault : IsSome refused.fault
  pub found : State
  pub not_in : refused.fault ≡ Some Disk → found ≢ refused.with_
  pub not_out : found ≢ refused.without
  pub begins : BeginsAnew m found r
  pub no_sooner : refused.with_.last ≤ r.moment
  pub new : state ≡ state_anew r.moment configured
  pub named : address ≡ Some (renumber_at r.moment configured)

-- what a settling at m found, the state that it left, and the Renumber that it appended
abbrev pub StandingMeans : ℕ → Address → Refused → State → Option Record → Standing → Type 0
StandingMeans m configured refused state address Clean = IsClean refused state address
StandingMeans m configured refused state address In = IsIn refused state address
StandingMeans m configured refused state address Out = IsOut refused state address
StandingMeans m configured refused state address (Fresh r) =
    IsAnew m configured refused state address r

-- the journal stood for one of the two states
abbrev pub IsExpected : Standing → Type 0
IsExpected (Fresh r) = ⊥
IsExpected Clean = ⊤
IsExpected In = ⊤
IsExpected Out = ⊤

abbrev pub refused_of : {D : Type 0} → BookView D → Refused
refused_of book = record {
  fault = book.fault;
  without = book.state;
  with_ = with_unsure book;
}

-- the book is settled at `now`
pub record Settles {D : Type 0} (tells : Type 0) (moment : D → ℕ)
    (left_since : D → ℕ → List ℕ → Type 0) (may_leave : D → List ℕ → Type 0) (now : ℕ)
    (old new : BookView D) (settled : Settled) : Type 0 where
  pub means : StandingMeans (max now old.last) old.terms.external.address (refused_of old)
      new.state settled.address settled.journal
  pub clean : old.fault ≡ None → new ≡ old
  pub expected : tells → IsExpected settled.journal
  pub last : new.last ≡ max old.last new.state.last
  pub terms : new.terms ≡ old.terms
  pub renumbered : new.renumbered ≡ old.renumbered
  pub fault : new.fault ≡ None
  pub sure : new.unsure ≡ []
  pub moments : tells → PairLeavesOnly moment left_since may_leave old.journal.pair
      new.journal.pair (StandsForWithOrWithout old.state old.unsure)

-- the book is settled at `now`, whatever was found
abbrev pub HasSettled : {D : Type 0} → (tells : Type 0) → (moment : D → ℕ)
    → (left_since : D → ℕ → List ℕ → Type 0) → (may_leave : D → List ℕ → Type 0) → (now : ℕ)
    → (old new : BookView D) → Type 0
HasSettled tells moment left_since may_leave now old new =
    (settled : Settled) × Settles tells moment left_since may_leave now old new settled

-- the settling was refused, and what was in doubt is so still
pub record KeepsDoubt {D : Type 0} (tells : Type 0) (moment : D → ℕ)
    (left_since : D → ℕ → List ℕ → Type 0) (may_leave : D → List ℕ → Type 0)
    (old new : BookView D) : Type 0 where
  pub doubt : IsSome old.fault
  pub same : new ≡ record old { journal = new.journal }
  pub moments : tells → PairLeavesOnly moment left_since may_leave old.journal.pair
      new.journal.pair (StandsForWithOrWithout old.state old.unsure)

-- ---- while a book is settled

-- no lease and no end is left since m
pub record IsEmptySince (m : ℕ) (s : State) : Type 0 where
  pub table : s.table ≡ empty_table
  pub ends : s.ends ≡ []
  pub base : s.base ≡ m
  pub last : s.last ≡ m
  pub started : s.started ≡ true

-- a journal that stood for a state begins anew at m or later, and is told the address
pub record IsRebuilt (m : ℕ) (configured : Address) (found state : State)
    (settled : Settled) : Type 0 where
  pub r : Record
  pub fresh : settled.journal ≡ Fresh r
  pub begins : BeginsAnew m found r
  pub new : state ≡ state_anew r.moment configured
  pub named : settled.address ≡ Some (renumber_at r.moment configured)

-- which of two lists of records, without those of a call and with them, is found
abbrev pub IsFound : JournalFault → (without with_ found : List Record) → Option Standing
    → Type 0
IsFound fault without with_ found (Some In) = (fault ≡ Disk) × (found ≡ with_)
IsFound fault without with_ found (Some Out) = (fault ≡ Disk → found ≢ with_) × (found ≡ without)
IsFound fault without with_ found None = (fault ≡ Disk → found ≢ with_) × (found ≢ without)
IsFound fault without with_ found (Some Clean) = ⊥
IsFound fault without with_ found (Some (Fresh r)) = ⊥

-- one of the two lists is found
abbrev pub IsOneOf : JournalFault → (without with_ found : List Record) → Type 0
IsOneOf fault without with_ found = ((fault ≡ Disk) × (found ≡ with_)) ⊎ (found ≡ without)

-- a state that was found, and one that is left, by what is said of it: the lists are snapshots of
-- the states that were expected
abbrev pub StandsAs : ℕ → Address → JournalFault → (without with_ : List Record)
    → (found state : State) → Settled → Standing → Type 0
StandsAs m configured fault without with_ found state settled In =
    (fault ≡ Disk) × (snapshot found ≡ with_) × (state ≡ found) × (settled.address ≡ None)
StandsAs m configured fault without with_ found state settled Out =
    (fault ≡ Disk → snapshot found ≢ with_) × (snapshot found ≡ without) × (state ≡ found)
    × (settled.address ≡ None)
StandsAs m configured fault without with_ found state settled (Fresh r) =
    (fault ≡ Disk → snapshot found ≢ with_) × (snapshot found ≢ without)
    × IsRebuilt m configured found state settled
StandsAs m configured fault without with_ found state settled Clean = ⊥

abbrev pub IsJudgedAs : ℕ → Address → JournalFault → (without with_ : List Record)
    → (found state : State) → Settled → Type 0
IsJudgedAs m configured fault without with_ found state settled =
    StandsAs m configured fault without with_ found state settled settled.journal
