-- The end of a house (our own).
use Rattle.std.specs.Prelude.{◌≡◌, ◌≤◌, ℕ, false, List, ◌++◌, length, Some}
use Rattle.std.specs.List.{slice_get}
use Rattle.lease_disk.specs.declared.disks.DiskPair.{DiskPair}
use Rattle.lane_index.specs.Lanes.{LaneKnowledge}
use Rattle.turn_lock.specs.Passes.{TurnName}
use Rattle.turned_shards.specs.declared.openings.Opening.{Opening}
use Rattle.turned_shards.specs.declared.passes.HousePass.{HousePass}
use Rattle.turned_shards.specs.Turnings.{EndsOne, KnowsFirst}

module _ {D : Type 0} where
  -- the pass is of this turn, which is at home
  pub record IsAtHome (turn : TurnName (Opening D)) (pass : HousePass D) : Type 0 where
    pub turn_is : pass.history.turn ≡ turn.id
    pub home : pass.history.out ≡ false

  -- there is one for each turn, in order
  pub record AreAtHome (turns : List (TurnName (Opening D))) (passes : List (HousePass D))
      : Type 0 where
    pub count : length passes ≡ length turns
    pub each : (place : ℕ) (turn : TurnName (Opening D)) (pass : HousePass D) →
        slice_get turns place ≡ Some turn → slice_get passes place ≡ Some pass →
        IsAtHome turn pass

  -- there is a lane of the index of each turn, in order, and perhaps more
  pub record AreLanesOf (turns : List (TurnName (Opening D))) (lanes : List LaneKnowledge)
      : Type 0 where
    pub enough : length turns ≤ length lanes
    pub each : (place : ℕ) (turn : TurnName (Opening D)) (lane : LaneKnowledge) →
        slice_get turns place ≡ Some turn → slice_get lanes place ≡ Some lane →
        lane.index ≡ turn.key.lane.index

  -- each lane knows first records of the history that the pass of its place has seen
  abbrev pub AllKnowFirst : List (TurnName (Opening D)) → List (HousePass D) → List LaneKnowledge
      → Type 0
  AllKnowFirst turns passes lanes =
      (place : ℕ) (turn : TurnName (Opening D)) (pass : HousePass D) (lane : LaneKnowledge) →
      slice_get turns place ≡ Some turn → slice_get passes place ≡ Some pass →
      slice_get lanes place ≡ Some lane → KnowsFirst turn.key pass.history.seen lane

  -- Each turn was taken for good with the pass of its place. All pairs come back in their order,
  -- before those that had no call.
  pub record EndsAll (tells : Type 0) (seen : D → List ℕ) (moment : D → ℕ)
      (left_since : D → ℕ → List ℕ → Type 0) (may_leave : D → List ℕ → Type 0)
      (faults : D → ℕ) (turns : List (TurnName (Opening D))) (old new : List (HousePass D))
      (spare pairs : List (DiskPair D)) : Type 0 where
    pub ended : List (DiskPair D)
    pub count : length ended ≡ length turns
    pub count_passes : length new ≡ length old
    pub each : (place : ℕ) (turn : TurnName (Opening D)) (p q : HousePass D) (pair : DiskPair D) →
        slice_get turns place ≡ Some turn → slice_get old place ≡ Some p →
        slice_get new place ≡ Some q → slice_get ended place ≡ Some pair →
        EndsOne tells seen moment left_since may_leave faults turn.key p q pair
    pub back : pairs ≡ ended ++ spare
