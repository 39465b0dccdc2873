-- What tests keep of the passes and lanes of a house (our own).
use Rattle.std.specs.Prelude.{◌≡◌, ℕ, List, Some}
use Rattle.std.specs.List.{AllByRecursion, slice_get}
use Rattle.logbook.specs.Pages.{Book}
use Rattle.lane_index.specs.Lanes.{LaneKnowledge, ToldRecords}
use Rattle.turned_shards.specs.declared.openings.Opening.{Opening}
use Rattle.turned_shards.specs.declared.passes.HousePass.{HousePass}
use Rattle.shared_house.specs.Endings.{AreAtHome}
use Rattle.shared_house.specs.HouseCalls.{BeginsAt, HouseView, IsPassOf}

module _ {D : Type 0} where
  -- with these passes calls can be made, and the house can be ended
  pub record ArePasses (house : HouseView D) (passes : List (HousePass D)) : Type 0 where
    pub home : AreAtHome house.turns passes
    pub each : AllByRecursion (IsPassOf house) passes

  -- a pass of the same external address
  pub record Follows (house : HouseView D) (old new : HousePass D) : Type 0 where
    pub is : IsPassOf house new
    pub shard : new.shard ≡ old.shard

  -- for the lane of the external address at this place
  abbrev pub IsToldAt : HouseView D → ℕ → ToldRecords → Type 0
  IsToldAt house place told =
      (o : Opening D) → BeginsAt house place o → told.index ≡ o.lane.index

  -- the index of the lane of the external address at this place
  pub record IsLaneAt (house : HouseView D) (place : ℕ) (index : Book) : Type 0 where
    pub opening : Opening D
    pub begins : BeginsAt house place opening
    pub index_is : opening.lane.index ≡ index

  -- the first lane is that of the first pass
  abbrev pub IsFirstLane : HouseView D → List (HousePass D) → List LaneKnowledge → Type 0
  IsFirstLane house passes lanes = (p : HousePass D) (l : LaneKnowledge) →
      slice_get passes 0 ≡ Some p → slice_get lanes 0 ≡ Some l → IsLaneAt house p.shard l.index
