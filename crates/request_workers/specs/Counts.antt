-- What the rows of a tally count (our own).
use Rattle.std.specs.Prelude.{◌≡◌, ℕ, ◌+◌, ◌-◌, ◌==◌, ◌^◌, min, Bool, false, List, length, count_by, sum_by}
use Rattle.lease_house.specs.declared.faults.HouseFault.TheVariants.{Disk, Memory}
use Rattle.job_workers.specs.declared.tallies.TallyRow.{TallyRow}
use Rattle.job_workers.specs.HouseCalls.{HouseCalls}
use Rattle.job_workers.specs.Sends.{sent_count}
use Rattle.job_workers.specs.Works.{Lost, Refused, Replied, WorkCall, WorkResult, unsent_in}
use Rattle.job_dispatch.specs.Dispatches.{Dispatched, Full, Given, Ignored, Joins, Late, Noise, Put, Starved, Waits, all_put_for}
use Rattle.request_workers.specs.Served.{IsShardRun, ShardRun}

-- so many, in a count of 64 bits, which stands still at its end
abbrev pub counted : ℕ → ℕ
counted n = min n (2 ^ 64 - 1)

-- ---- of a call for so many jobs

-- the replies that its outbox took
abbrev pub sent_in : WorkResult → ℕ
sent_in (Replied handed) = sent_count handed
sent_in Lost = 0
sent_in (Refused fault) = 0

-- the datagrams of a batch that was answered which got no reply
abbrev pub silent_in : ℕ → WorkResult → ℕ
silent_in jobs (Replied handed) = jobs - length handed
silent_in jobs Lost = 0
silent_in jobs (Refused fault) = 0

-- its jobs where a disk refused it
abbrev pub faulted_in : ℕ → WorkResult → ℕ
faulted_in jobs (Replied handed) = 0
faulted_in jobs Lost = 0
faulted_in jobs (Refused (Disk shard)) = jobs
faulted_in jobs (Refused Memory) = 0

-- its jobs where want of memory refused it
abbrev pub starved_in : ℕ → WorkResult → ℕ
starved_in jobs (Replied handed) = 0
starved_in jobs Lost = 0
starved_in jobs (Refused (Disk shard)) = 0
starved_in jobs (Refused Memory) = jobs

-- ---- of what the dispatcher did

-- a job of this shard was dropped since its queue was full
abbrev pub is_full : ℕ → Dispatched → Bool
is_full shard (Given item (Put at job)) = false
is_full shard (Given item (Full at job)) = at == shard
is_full shard (Given item (Waits at)) = false
is_full shard (Given item (Joins at)) = false
is_full shard (Given item (Noise at job)) = false
is_full shard (Given item Starved) = false
is_full shard (Given item Ignored) = false
is_full shard (Late at) = false

-- one was dropped for want of memory: it counts for the first shard
abbrev pub is_starved : ℕ → Dispatched → Bool
is_starved shard (Given item (Put at job)) = false
is_starved shard (Given item (Full at job)) = false
is_starved shard (Given item (Waits at)) = false
is_starved shard (Given item (Joins at)) = false
is_starved shard (Given item (Noise at job)) = false
is_starved shard (Given item Starved) = 0 == shard
is_starved shard (Given item Ignored) = false
is_starved shard (Late at) = false

-- ---- the row of an external address

-- It counts the jobs that were put for it, what its calls did with them, and what was dropped.
pub record Counts (shard : ℕ) (ds : List Dispatched) (calls : List WorkCall) (row : TallyRow)
    : Type 0 where
  pub taken : row.taken ≡ counted (length (all_put_for shard ds))
  pub replied : row.replied ≡ counted (sum_by (λ c. sent_in c.result) calls)
  pub silent : row.silent ≡ counted (sum_by (λ c. silent_in (length c.jobs) c.result) calls)
  pub unsent : row.unsent ≡ counted (sum_by (λ c. unsent_in c.result) calls)
  pub faulted : row.faulted ≡ counted (sum_by (λ c. faulted_in (length c.jobs) c.result) calls)
  pub full : row.full ≡ counted (count_by (is_full shard) ds)
  pub starved : row.starved ≡ counted
      (sum_by (λ c. starved_in (length c.jobs) c.result) calls
      + count_by (is_starved shard) ds)

-- so of each external address
abbrev pub RowsCount : {P : Type 0} → HouseCalls P → Type 0
RowsCount {P} house = (shard : ℕ) (ds : List Dispatched) (r : ShardRun P) →
    (is : IsShardRun house shard ds r) → Counts shard ds is.works.calls r.row
