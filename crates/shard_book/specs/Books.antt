-- A book as contracts see it (our own).
use Rattle.std.specs.Prelude.{◌≡◌, ◌≢◌, ◌≤◌, ◌<◌, ◌^◌, ℕ, Bool, true, false, List, [], Option, Some, None}
use Rattle.pcp_base.specs.declared.records.Record.{Record}
use Rattle.pcp_base.specs.Apply.{apply_all}
use Rattle.pcp_base.specs.Fits.{AllFit}
use Rattle.pcp_base.specs.Reached.{IsReached}
use Rattle.pcp_base.specs.States.{State}
use Rattle.lease_store.specs.declared.terms.Terms.{Terms}
use Rattle.lease_store.specs.LeaseTerms.{AreTerms}
use Rattle.lease_disk.specs.Pairs.{HoldsNow}
use Rattle.journal_sides.specs.declared.errors.JournalFault.{JournalFault}
use Rattle.journal_sides.specs.declared.errors.JournalFault.TheVariants.{Disk}
use Rattle.journal_sides.specs.declared.formats.Format.TheVariants.{Second}
use Rattle.journal_sides.specs.Journals.{StandsForWithOrWithout}
use Rattle.lease_journal.specs.Views.{JournalView, IsSettled}

pub record BookView (D : Type 0) : Type 0 where
  -- the state of the records that are known to be in the journal
  pub state : State
  -- the greatest moment of a batch or a Lose; never below the last moment of the state
  pub last : ℕ
  pub terms : Terms
  -- whether the opening found another address
  pub renumbered : Bool
  -- what a call answered since the book was settled last, if one was refused
  pub fault : Option JournalFault
  -- the records of the last call that answered `Disk`: the journal has all of them or none
  pub unsure : List Record
  pub journal : JournalView D

-- the state, if the unsure records are in the journal
abbrev pub with_unsure : {D : Type 0} → BookView D → State
with_unsure book = apply_all book.state book.unsure

-- nothing is in doubt, and records may be appended
pub record IsWritable {D : Type 0} (tells : Type 0) (seen : D → List ℕ)
    (may_leave : D → List ℕ → Type 0) (journal : JournalView D) (s : State) : Type 0 where
  pub read : journal.unread ≡ false
  pub second : journal.standing.format ≡ Second
  pub settled : tells → IsSettled seen may_leave journal s

-- What holds of each book. Its address, that of its terms, is the one that its state names.
pub record IsBook {D : Type 0} (tells : Type 0) (seen : D → List ℕ)
    (may_leave : D → List ℕ → Type 0) (book : BookView D) : Type 0 where
  pub terms : AreTerms book.terms
  pub reached : IsReached book.state
  pub started : book.state.started ≡ true
  pub address : book.state.address ≡ Some book.terms.external.address
  pub later : book.state.last ≤ book.last
  pub last : book.last < 2 ^ 40
  pub fit : AllFit book.state book.unsure
  pub unsure_address : (with_unsure book).address ≡ Some book.terms.external.address
  pub sure : book.fault ≢ Some Disk → book.unsure ≡ []
  pub writable : book.fault ≡ None → IsWritable tells seen may_leave book.journal book.state
  -- a crash leaves the state with all the unsure records, or without them
  pub images : tells →
      HoldsNow may_leave (StandsForWithOrWithout book.state book.unsure) book.journal.pair
