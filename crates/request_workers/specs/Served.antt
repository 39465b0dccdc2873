-- What serving did (our own): for each external address, and for the whole run.
use Rattle.std.specs.Prelude.{◌≡◌, ℕ, ◌+◌, Bool, List, [], ◌∷◌, ◌++◌, map, Option, Result}
use Rattle.std.specs.List.{AllByRecursion}
use Rattle.pcp_base.specs.declared.configs.Config.{Config}
use Rattle.pcp_announce.specs.declared.doors.Group.{Group}
use Rattle.pcp_io.specs.declared.inboxes.InboxItem.{InboxItem}
use Rattle.pcp_io.specs.Times.{Times, IsTimeNow}
use Rattle.pcp_announce.specs.Schedules.{Schedule, begun}
use Rattle.lane_loops.specs.LaneRuns.{LaneState}
use Rattle.lane_loops.specs.LaneSets.{AllRun}
use Rattle.job_workers.specs.declared.tallies.TallyRow.{TallyRow}
use Rattle.job_workers.specs.HouseCalls.{HouseCalls, IsTold, StaysPass}
use Rattle.job_workers.specs.Stations.{OutState}
use Rattle.job_workers.specs.Tallies.{joined_rows, no_jobs}
use Rattle.job_workers.specs.Works.{WorkState, Works}
use Rattle.job_dispatch.specs.declared.noise.NoiseCounts.{NoiseCounts}
use Rattle.job_dispatch.specs.declared.ports.Port.{Port}
use Rattle.job_dispatch.specs.Announcing.{AnnounceState}
use Rattle.job_dispatch.specs.Dispatches.{Dispatched, NoneWaits, all_put_for}
use Rattle.job_dispatch.specs.Dispatching.{DispatchState}
use Rattle.job_dispatch.specs.Noise.{no_noise}
use Rattle.job_dispatch.specs.PortsAfter.{dispatched_row}
use Rattle.request_workers.specs.declared.faults.RunFault.{RunFault}
use Rattle.request_workers.specs.Leads.{Leads}

-- one external address: what its worker began and ended with, and its row of the tally
pub record ShardRun (P : Type 0) : Type 0 where
  pub old : WorkState P
  pub new : WorkState P
  pub row : TallyRow

-- what an outbox tells then
abbrev pub out_of : {P : Type 0} → WorkState P → OutState
out_of s = record { sent = s.sent; faults = s.faults }

module _ {P : Type 0} (house : HouseCalls P) where
  -- All that was put for this external address was done, in order and each once. The row counts
  -- that and what the dispatcher dropped.
  pub record IsShardRun (shard : ℕ) (ds : List Dispatched) (r : ShardRun P) : Type 0 where
    pub works : Works house (all_put_for shard ds) r.old r.new
    pub begins : r.old.row ≡ no_jobs
    pub stays : StaysPass house r.old.pass r.new.pass
    pub row : r.row ≡ joined_rows r.new.row (dispatched_row shard ds)

  -- so for each of the external addresses from this one on
  abbrev pub AreShardRuns : ℕ → List Dispatched → List (ShardRun P) → Type 0
  AreShardRuns shard ds [] = Unit {0}
  AreShardRuns shard ds (r ∷ rs) = IsShardRun shard ds r × AreShardRuns (shard + 1) ds rs

  -- The whole run: the dispatcher handed on all items until the inbox stopped or failed, or none where
  -- threads were missing; what it put for each external address was done; the loop of each lane ran.
  -- The passes and the rows were added in the order of the external addresses.
  pub record RunsAll (config : Config) (groups : List Group) (port : ℕ)
      (dispatcher : DispatchState P) (announcing : AnnounceState P)
      (items_left : Option (List InboxItem)) (inbox_faults : ℕ) (read : Result (Unit {0}) RunFault)
      (seated : List P) (outs_old outs_new : List OutState)
      (times_old times_new : List (Option Times)) (lanes_old lanes_new : List LaneState)
      (passes_old passes_new : List P) (rows_old rows_new : List TallyRow) : Type 0 where
    pub ports : List Port
    pub noise : NoiseCounts
    pub runs : Leads house config groups port dispatcher
        (record {
          ports = ports;
          noise = noise;
          announcing = announcing;
          left = items_left;
          faults = inbox_faults;
        })
        read
    pub shards : List (ShardRun P)
    pub each : AreShardRuns 0 runs.dispatched shards
    pub seated_were : seated ≡ map (λ r. r.old.pass) shards
    pub outs_were : outs_old ≡ map (λ r. out_of r.old) shards
    pub outs_are : outs_new ≡ map (λ r. out_of r.new) shards
    pub times_were : times_old ≡ map (λ r. r.old.times) shards
    pub times_are : times_new ≡ map (λ r. r.new.times) shards
    pub passes_are : passes_new ≡ passes_old ++ map (λ r. r.new.pass) shards
    pub rows_are : rows_new ≡ rows_old ++ map (λ r. r.row) shards
    pub lanes : AllRun lanes_old lanes_new

  -- The announcer is made with what the epoch word told, and with the time of the clock.
  pub record BeginsAnnouncer (fresh : Bool) (old new : P) (times_old times_new : Option Times)
      (schedule : Schedule) : Type 0 where
    pub base : ℕ
    pub told : IsTold house old new base
    pub time : ℕ
    pub clock : IsTimeNow times_old times_new time
    pub schedule_is : schedule ≡ begun base fresh time

  -- The announcer was made, and then all ran, from the given passes to these and to the tally.
  pub record ServesAll (config : Config) (groups : List Group) (port : ℕ) (fresh : Bool)
      (asking asked : P) (out_old out_new : OutState) (clock_old clock_new : Option Times)
      (left_old left_new : Option (List InboxItem)) (faults_old faults_new : ℕ)
      (read : Result (Unit {0}) RunFault) (outs_old outs_new : List OutState)
      (times_old times_new : List (Option Times)) (lanes_old lanes_new : List LaneState)
      (passes_old passes_new : List P) (rows : List TallyRow) : Type 0 where
    pub told_to : P
    pub clock_then : Option Times
    pub schedule : Schedule
    pub begins : BeginsAnnouncer fresh asking told_to clock_old clock_then schedule
    pub ports : List Port
    -- nothing had been put, and no loss waited
    pub nothing : AllByRecursion (λ p. p.putter.put ≡ []) ports
    pub none_waits : NoneWaits ports
    pub schedule_at_end : Schedule
    pub runs : RunsAll config groups port
        (record {
          ports = ports;
          noise = no_noise;
          announcing = record {
            pass = told_to;
            schedule = schedule;
            sent = out_old.sent;
            faults = out_old.faults;
            times = clock_then;
          };
          left = left_old;
          faults = faults_old;
        })
        (record {
          pass = asked;
          schedule = schedule_at_end;
          sent = out_new.sent;
          faults = out_new.faults;
          times = clock_new;
        })
        left_new faults_new read passes_old outs_old outs_new times_old times_new lanes_old
        lanes_new [] passes_new [] rows
