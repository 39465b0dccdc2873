-- Books that are put behind turns one after the other (our own; for private contracts).
use Rattle.std.specs.Prelude.{◌≡◌, ◌≤◌, ℕ, ◌+◌, ◌-◌, ◌^◌, List, [], ◌∷◌, ◌++◌, ⊤, length}
use Rattle.std.specs.Prelude.{vec_capacity}
use Rattle.std.specs.List.{AllZip}
use Rattle.pcp_base.specs.declared.configs.Config.{Config}
use Rattle.lane_index.specs.Lanes.{LaneKnowledge, lane_of}
use Rattle.turn_lock.specs.Passes.{TurnName, new_pass}
use Rattle.epoch_word.specs.Rule.{SeatKnowledge}
use Rattle.shard_book.specs.Books.{BookView}
use Rattle.turned_shards.specs.declared.openings.Opening.{Opening}
use Rattle.turned_shards.specs.declared.passes.HousePass.{HousePass}
use Rattle.shared_house.specs.declared.turned.Turned.{Turned}
use Rattle.turned_shards.specs.Turnings.{MayBegin, StandsStill, first_leases, opening_of}

module _ {D : Type 0} where
  -- the books were just opened for the external addresses from this place on
  abbrev pub AllMayBegin : Type 0 → (D → List ℕ) → (D → List ℕ → Type 0) → Config → ℕ
      → List (BookView D) → Type 0
  AllMayBegin tells seen may_leave config place [] = ⊤
  AllMayBegin tells seen may_leave config place (b ∷ bs) =
      MayBegin tells seen may_leave config place b
      × AllMayBegin tells seen may_leave config (place + 1) bs

  -- there is room for so many more
  pub record HasRoomFor (n : ℕ) (made : Turned D) : Type 0 where
    pub turns : length made.turns.items + n ≤ vec_capacity made.turns
    pub passes : length made.passes.items + n ≤ vec_capacity made.passes
    pub lanes : length made.lanes.items + n ≤ vec_capacity made.lanes

  -- a pass that has seen nothing
  abbrev pub first_pass : ℕ → TurnName (Opening D) → SeatKnowledge → HousePass D
  first_pass place turn seat = record {
    shard = place;
    history = new_pass turn.id (2 ^ 64 - 1) [] [];
    epoch = seat;
  }

  -- one more stands behind a turn
  pub record AddsOne (config : Config) (place : ℕ) (book : BookView D) (seat : SeatKnowledge)
      (old new : Turned D) : Type 0 where
    pub turn : TurnName (Opening D)
    pub lane : LaneKnowledge
    pub key : turn.key ≡ opening_of config place book lane
    pub leases : lane ≡ lane_of lane.index (first_leases book) []
    pub turns : new.turns.items ≡ old.turns.items ++ turn ∷ []
    pub passes : new.passes.items ≡ old.passes.items ++ first_pass place turn seat ∷ []
    pub lanes : new.lanes.items ≡ old.lanes.items ++ lane ∷ []

  -- each pass is the only one of the turn of its place, and has seen nothing
  abbrev pub AreUnshared : List (TurnName (Opening D)) → List (HousePass D) → Type 0
  AreUnshared turns passes =
      AllZip (λ t p. p.history ≡ new_pass t.id (2 ^ 64 - 1) [] []) turns passes

  -- books came out of turns, and stand before others
  pub record TakesApart (tells : Type 0) (moment : D → ℕ) (left_since : D → ℕ → List ℕ → Type 0)
      (may_leave : D → List ℕ → Type 0) (faults : D → ℕ) (turns : List (TurnName (Opening D)))
      (old new : List (BookView D)) : Type 0 where
    pub out : List (BookView D)
    pub each : AllZip
        (λ t b. StandsStill tells moment left_since may_leave faults t.key.book b) turns out
    pub new_is : new ≡ out ++ old
