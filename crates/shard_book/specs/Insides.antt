-- What a book keeps (our own).
use Rattle.std.specs.Prelude.{◌≡◌, ◌≤◌, ℕ, Bool, true, List, None}
use Rattle.pcp_base.specs.declared.addresses.Address.{Address}
use Rattle.pcp_base.specs.declared.records.Record.{Record}
use Rattle.pcp_base.specs.Apply.{apply_all, state_of}
use Rattle.pcp_base.specs.Fits.{AllFit}
use Rattle.pcp_base.specs.Reached.{IsReached}
use Rattle.pcp_base.specs.States.{State, empty_state}
use Rattle.lease_store.specs.declared.terms.Terms.{Terms}
use Rattle.lease_store.specs.LeaseTerms.{AreTerms}
use Rattle.lease_journal.specs.Views.{JournalView, IsSettled}
use Rattle.shard_book.specs.Books.{BookView, IsBook}
use Rattle.shard_book.specs.KeptTexts.{KeptRecords}

-- the core holds this state, and may decide at each moment from this one on
pub record IsHeld (state : State) (reached : ℕ) (s : State) (last : ℕ) : Type 0 where
  pub same : state ≡ s
  pub passed : reached ≤ last

pub record IsKeptBook {D : Type 0} (tells : Type 0) (seen : D → List ℕ)
    (may_leave : D → List ℕ → Type 0) (state : State) (reached : ℕ) (texts : KeptRecords)
    (base : ℕ) (address : Address) (book : BookView D) : Type 0 where
  pub is : IsBook tells seen may_leave book
  pub fit : AllFit empty_state texts.sure
  -- after a fault the core may hold anything
  pub held : book.fault ≡ None → IsHeld state reached book.state book.last
  pub based : base ≡ book.state.base
  pub named : address ≡ book.terms.external.address

-- these records fit, and they stand for the state
pub record StandAlone (records : List Record) (s : State) : Type 0 where
  pub fit : AllFit empty_state records
  pub state : state_of records ≡ s

-- these records fit after the state, and name no other address
pub record MayFollow (s : State) (records : List Record) : Type 0 where
  pub fit : AllFit s records
  pub address : (apply_all s records).address ≡ s.address

-- the core holds this state, which fitting records made and of which the first was a Start, and may
-- decide at m
pub record MayDecideAt (terms : Terms) (state : State) (reached m : ℕ) : Type 0 where
  pub allowed : AreTerms terms
  pub made : IsReached state
  pub started : state.started ≡ true
  pub passed : reached ≤ m
  pub last : state.last ≤ m

-- the journal stands for a state after which these records fit, and for which the snapshot stands,
-- if the journal is to be written anew with it
pub record IsKnownAs {D : Type 0} (seen : D → List ℕ) (may_leave : D → List ℕ → Type 0)
    (journal : JournalView D) (anew : Bool) (snapshot records : List Record) : Type 0 where
  pub known : State
  pub settled : IsSettled seen may_leave journal known
  pub fit : AllFit known records
  pub same : anew ≡ true → state_of snapshot ≡ known
