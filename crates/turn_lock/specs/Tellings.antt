-- What each step at a turn's table tells the seat that takes it (our own).
use Rattle.std.specs.Prelude.{◌≡◌, ◌≢◌, ℕ, ◌%◌, ◌^◌, ◌<◌, Bool, List, [], ◌∷◌, Option, Some}
use mathlib.Core.List.{IsPrefix}
use Rattle.atomic_table.specs.Table.{Step, rest}
use Rattle.turn_lock.specs.declared.layout.TheConstants.{VALUE}
use Rattle.turn_lock.specs.declared.views.TurnView.{TurnView}
use Rattle.turn_lock.specs.Views.{SeatState, IsPlacedView, waiting_view, out_view, noting_view, idle_view, looked_view}

-- what the rule tells of a view by itself
pub record IsOfTurn {E : Type 0} (v : TurnView E) : Type 0 where
  pub room : v.room < 2 ^ 64
  pub begins : IsPrefix v.told v.seen
  pub placed : IsPlacedView v

module _ {S E : Type 0} where
  -- a ticket was drawn
  abbrev pub TellsDraw : Step S → SeatState S E → ℕ → SeatState S E → Type 0
  TellsDraw st old found new =
      (ticket : ℕ) × (found ≡ ticket % 2 ^ 64) × (new ≡ (waiting_view ticket old.0, old.1))

  -- the entries were noted
  abbrev pub TellsNote : Bool → List E → Step S → SeatState S E → ℕ → SeatState S E → Type 0
  TellsNote own xs st old found new = (new ≡ (noting_view own xs old.0, old.1)) × IsPlacedView new.0

  -- the value was given back
  abbrev pub TellsGive : Step S → SeatState S E → ℕ → SeatState S E → Type 0
  TellsGive st old found new = (new ≡ (idle_view old.0, rest old.1)) × IsPlacedView new.0

  -- what the view is told begins what it has seen
  abbrev pub TellsLearn : Step S → SeatState S E → ℕ → SeatState S E → Type 0
  TellsLearn st old found new = (new ≡ (looked_view old.0, old.1)) × IsOfTurn old.0

module _ {X E : Type 0} (stands : X → List E → Type 0) (added : X → List E) where
  -- the turn has come: the value is out, and the view has seen the whole history, for which it
  -- stands
  pub record HasCome (old new : SeatState (Option X) E) : Type 0 where
    pub seen : List E
    pub value : X
    pub next : new ≡ (out_view seen old.0, (VALUE, Some value) ∷ old.1)
    pub begins : IsPrefix old.0.seen seen
    pub stands_for : stands value seen
    pub clean : added value ≡ []
    pub placed : IsPlacedView new.0

  -- the value was taken exactly where the number found is the view's ticket
  abbrev pub TellsLook : Step (Option X) → SeatState (Option X) E → ℕ → SeatState (Option X) E
      → Type 0
  TellsLook st old found new =
      (found ≡ old.0.ticket % 2 ^ 64 → HasCome old new)
      × (found ≢ old.0.ticket % 2 ^ 64 → new ≡ old)
