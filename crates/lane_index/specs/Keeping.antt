-- What holds of the parts of a lane and of its writer (our own).
use Rattle.std.specs.Prelude.{◌≡◌, ℕ, List, length, fold}
use mathlib.Core.List.{IsPrefix}
use Rattle.lane_index.specs.declared.history.HistoryEntry.{HistoryEntry}
use Rattle.lane_index.specs.declared.operations.Operation.{Operation}
use Rattle.lane_index.specs.declared.replicas.Replica.{Replica}
use Rattle.lane_index.specs.Histories.{IndexHistory, HasBeginning}
use Rattle.lane_index.specs.Operations.{absorbed}
use Rattle.lane_index.specs.Replicas.{IsReplica}

-- the beginning of the history that a lane knows
pub record IsSeenSoFar (log : List HistoryEntry) (count : ℕ) : Type 0 where
  pub begins : HasBeginning log
  pub counted : count ≡ length log

-- The shown copy has what was published; with the operations that wait it has all of the history.
pub record IsBehind (history : IndexHistory) (published : List HistoryEntry) (copy : Replica)
    (ops : List Operation) : Type 0 where
  pub copy_is : IsReplica history.index copy
  pub published_is : copy.seen.log ≡ published
  pub begins : IsPrefix published history.log
  pub next_is : IsReplica history.index (fold absorbed copy ops)
  pub whole : (fold absorbed copy ops).seen.log ≡ history.log
