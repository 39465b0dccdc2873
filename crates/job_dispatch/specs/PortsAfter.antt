-- What the dispatcher has put and counted for each external address, whether a loss waits there, and
-- what was dropped as noise, by what was done (our own).
use Rattle.std.specs.Prelude.{◌≡◌, ℕ, ◌+◌, List, [], ◌∷◌, ◌++◌, ◌==◌, Bool, true, false, fold, if◌then◌else◌}
use Rattle.job_queue.specs.declared.jobs.Job.{Job}
use Rattle.job_queue.specs.Queues.{PutterKnowledge}
use Rattle.job_dispatch.specs.declared.ports.Port.{Port}
use Rattle.job_workers.specs.declared.tallies.TallyRow.{TallyRow}
use Rattle.job_workers.specs.Tallies.{more, no_jobs, row_full, row_starved}
use Rattle.job_dispatch.specs.Dispatches.{Dispatched, Fate, Full, Given, Ignored, Joins, Late, Noise, Put, Starved, Waits, all_put_for}

-- what the dispatcher counts for a shard
abbrev pub row_by_fate : ℕ → TallyRow → Fate → TallyRow
row_by_fate shard row (Put at job) = row
row_by_fate shard row (Full at job) = if at == shard then row_full row else row
row_by_fate shard row (Waits at) = row
row_by_fate shard row (Joins at) = row
row_by_fate shard row (Noise at job) = row
row_by_fate shard row Starved = if 0 == shard then row_starved row else row
row_by_fate shard row Ignored = row

abbrev pub row_by_step : ℕ → TallyRow → Dispatched → TallyRow
row_by_step shard row (Given item fate) = row_by_fate shard row fate
row_by_step shard row (Late at) = row

abbrev pub dispatched_row : ℕ → List Dispatched → TallyRow
dispatched_row shard ds = fold (row_by_step shard) no_jobs ds

-- whether a loss waits for a shard
abbrev pub waits_by_fate : ℕ → Bool → Fate → Bool
waits_by_fate shard waits (Put at job) = waits
waits_by_fate shard waits (Full at job) = waits
waits_by_fate shard waits (Waits at) = if at == shard then true else waits
waits_by_fate shard waits (Joins at) = waits
waits_by_fate shard waits (Noise at job) = waits
waits_by_fate shard waits Starved = waits
waits_by_fate shard waits Ignored = waits

abbrev pub waits_by : ℕ → Bool → Dispatched → Bool
waits_by shard waits (Given item fate) = waits_by_fate shard waits fate
waits_by shard waits (Late at) = if at == shard then false else waits

-- these jobs were put behind the others
abbrev pub put_more : PutterKnowledge → List Job → PutterKnowledge
put_more putter jobs = record putter { put = putter.put ++ jobs }

-- the port of this shard has put what was put for it, has counted what its fates are, and knows
-- whether a loss waits
pub record IsPortAfter (shard : ℕ) (ds : List Dispatched) (old new : Port) : Type 0 where
  pub putter : new.putter ≡ put_more old.putter (all_put_for shard ds)
  pub row : new.row ≡ fold (row_by_step shard) old.row ds
  pub waits : new.waits ≡ fold (waits_by shard) old.waits ds

-- those of the external addresses from this one on
abbrev pub ArePortsAfter : ℕ → List Dispatched → List Port → List Port → Type 0
ArePortsAfter shard ds [] [] = Unit {0}
ArePortsAfter shard ds [] (p ∷ ps) = ⊥
ArePortsAfter shard ds (o ∷ os) [] = ⊥
ArePortsAfter shard ds (o ∷ os) (p ∷ ps) =
    IsPortAfter shard ds o p × ArePortsAfter (shard + 1) ds os ps

-- how much noise was dropped
abbrev pub dropped_by_fate : ℕ → Fate → ℕ
dropped_by_fate dropped (Put at job) = dropped
dropped_by_fate dropped (Full at job) = dropped
dropped_by_fate dropped (Waits at) = dropped
dropped_by_fate dropped (Joins at) = dropped
dropped_by_fate dropped (Noise at job) = more dropped 1
dropped_by_fate dropped Starved = dropped
dropped_by_fate dropped Ignored = dropped

abbrev pub dropped_by : ℕ → Dispatched → ℕ
dropped_by dropped (Given item fate) = dropped_by_fate dropped fate
dropped_by dropped (Late at) = dropped

abbrev pub dropped_after : ℕ → List Dispatched → ℕ
dropped_after dropped ds = fold dropped_by dropped ds
