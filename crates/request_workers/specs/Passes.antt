-- What the house's passes are before a run and after it (our own).
use Rattle.std.specs.Prelude.{◌≡◌, ℕ, List, ◌∷◌, map}
use Rattle.job_workers.specs.HouseCalls.{HouseCalls, SplitsOff}
use Rattle.job_dispatch.specs.Dispatches.{Dispatched}
use Rattle.request_workers.specs.Seats.{ArePasses}
use Rattle.request_workers.specs.Served.{AreShardRuns, ShardRun}

-- Another pass of the first external address was split off, and all are passes of the house still.
pub record SplitsFirst {P : Type 0} (house : HouseCalls P) (old new : List P) (other : P)
    : Type 0 where
  pub first : P
  pub kept : P
  pub rest : List P
  pub old_is : old ≡ first ∷ rest
  pub new_is : new ≡ kept ∷ rest
  pub splits : SplitsOff house first kept other
  pub passes : ArePasses house 0 new

-- Passes of a house, in the order of the external addresses, are so once their jobs were done.
abbrev pub PassesStay : {P : Type 0} → HouseCalls P → Type 0
PassesStay {P} house = (shard : ℕ) (ds : List Dispatched) (rs : List (ShardRun P)) →
    AreShardRuns house shard ds rs → ArePasses house shard (map (λ r. r.old.pass) rs) →
    ArePasses house shard (map (λ r. r.new.pass) rs)
