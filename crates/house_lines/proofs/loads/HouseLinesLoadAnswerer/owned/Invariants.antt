use Rattle.std.proofs.Common.{◌≡◌, ◌*◌, ◌≤◌, length, map, take}
use Rattle.std.specs.Prelude.{sum}
use Rattle.lease_store.specs.OwnerOrder.{owners_in_order}
use Rattle.lease_histories.specs.PlainHouses.{at_last}
use Rattle.lease_house.specs.SoloHouses.{plain_house}
use Rattle.house_lines.proofs.loads.HouseLinesLoadAnswerer.owned.Given as goal

-- those of the external addresses before this one
abbrev pub invariant-loop-place : goal.invariant-loop-place
invariant-loop-place g l = record {
  so_far : l.count ≡ sum (take l.place (map (λ s. length (owners_in_order s.state.table (at_last l.fn.m s))) (plain_house l.fn.self).shards));
  few : l.count ≤ l.place * 134217728;
}
