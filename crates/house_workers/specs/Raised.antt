-- What a worker raises the epoch word to (our own): bases, and no other moments.
use Rattle.std.specs.Prelude.{◌≡◌, ◌⊎◌, ℕ, true, List, ◌∷◌, ◌++◌}
use Rattle.pcp_base.specs.declared.datagrams.Entry.{Entry}
use Rattle.pcp_base.specs.declared.records.Record.{Record}
use Rattle.pcp_base.specs.Apply.{apply_all, rebases}
use Rattle.pcp_base.specs.States.{State}
use Rattle.lease_histories.specs.Legal.{state_after}

-- it is the base of the state after some first entries of the history
pub record IsBaseAlong (opening : State) (history : List Entry) (m : ℕ) : Type 0 where
  pub first : List Entry
  pub more : List Entry
  pub history_is : history ≡ first ++ more
  pub base_is : m ≡ (state_after opening first).base

-- a seat has raised what it had, or such a base
abbrev pub RaisesBases : State → List Entry → (old new : ℕ) → Type 0
RaisesBases opening history old new = (new ≡ old) ⊎ IsBaseAlong opening history new

-- it is the moment of a record among these that rebases: a Start, a Lose, or a Renumber to another
-- address
pub record IsMomentOf (opening : State) (records : List Record) (m : ℕ) : Type 0 where
  pub before : List Record
  pub r : Record
  pub more : List Record
  pub records_are : records ≡ before ++ r ∷ more
  pub how : rebases r.change (apply_all opening before).address ≡ true
  pub moment_is : m ≡ r.moment
