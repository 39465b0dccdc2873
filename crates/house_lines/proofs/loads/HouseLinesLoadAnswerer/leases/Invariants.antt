use Rattle.std.proofs.Common.{◌≡◌, ◌*◌, ◌≤◌, map, take}
use Rattle.std.specs.Prelude.{sum}
use Rattle.lease_store.specs.Lookups.{lease_count}
use Rattle.lease_histories.specs.PlainHouses.{at_last}
use Rattle.lease_house.specs.SoloHouses.{plain_house}
use Rattle.house_lines.proofs.loads.HouseLinesLoadAnswerer.leases.Given as goal

-- those of the external addresses before this one
abbrev pub invariant-loop-place : goal.invariant-loop-place
invariant-loop-place g l = record {
  so_far : l.count ≡ sum (take l.place (map (λ s. lease_count s.state.table (at_last l.fn.m s)) (plain_house l.fn.self).shards));
  few : l.count ≤ l.place * 32768;
}
