-- A worker's own entries, and its replies (our own).
use Rattle.std.specs.Prelude.{◌≡◌, ◌≤◌, ℕ, ◌+◌, Bool, true, not, List, [], ◌∷◌, ◌++◌, length, map, filter, flat_map, is_some, Some}
use Rattle.std.specs.List.{AllZip, slice_get}
use mathlib.Core.List.{IsPrefix}
use Rattle.pcp_base.specs.declared.configs.Config.{Config}
use Rattle.pcp_base.specs.declared.datagrams.Entry.{Entry}
use Rattle.pcp_base.specs.declared.records.Change.TheVariants as Changes
use Rattle.pcp_base.specs.declared.records.Record.{Record}
use Rattle.lease_histories.specs.Entries.{entry_kind, request_of}
use Rattle.lease_house.specs.declared.faults.HouseFault.TheVariants as HouseFaults
use Rattle.job_queue.specs.declared.jobs.Job.{Job}
use Rattle.job_queue.specs.declared.jobs.Job.TheVariants as Jobs
use Rattle.job_workers.specs.Sends.{Handed, HandsAll}
use Rattle.job_workers.specs.Stations.{OutState}
use Rattle.job_workers.specs.Works.{Lost, Refused, Replied, WorkCall, WorkResult}
use Rattle.turn_lock.specs.Passes.{PassKnowledge}
use Rattle.turned_shards.specs.BatchEntries.{reply_in}
use Rattle.turned_shards.specs.FaultCounts.{is_of_fault}

-- the entries that these calls noted as their own, in order
abbrev pub own_in : List WorkCall → List Entry
own_in calls = flat_map (λ c. c.own) calls

-- ---- replies

-- the entries of a batch that was answered
abbrev pub answered_by : WorkResult → List Entry → List Entry
answered_by (Replied handed) own = own
answered_by Lost own = []
answered_by (Refused fault) own = []

abbrev pub answered_in : List WorkCall → List Entry
answered_in calls = flat_map (λ c. answered_by c.result c.own) calls

-- The replies of these entries were handed to the outbox, in order, each once. It took those whose
-- send was Ok, and its count of faults has risen by as many as the others are.
pub record HandsReplies (entries : List Entry) (old new : OutState) : Type 0 where
  pub handed : List Handed
  pub replies : map (λ h. h.reply) handed ≡ map reply_in entries
  pub all : HandsAll handed old.sent new.sent old.faults new.faults

-- ---- places

-- each number is greater than the one before; the first is at least `from`, and all are below `to`
abbrev pub AreRising : ℕ → List ℕ → ℕ → Type 0
AreRising from [] to = from ≤ to
AreRising from (n ∷ ns) to = (from ≤ n) × AreRising (n + 1) ns to

-- These entries stand in the history that the pass has seen, in order and each once, behind what it
-- had seen; their places are those that it noted as its own.
pub record NotesInOrder {M : Type 0} (old new : PassKnowledge Entry M) (own : List Entry)
    : Type 0 where
  pub places : List ℕ
  pub seen : IsPrefix old.seen new.seen
  pub marks : IsPrefix old.marks new.marks
  pub mine : new.mine ≡ old.mine ++ places
  pub rising : AreRising (length old.seen) places (length new.seen)
  pub entries : AllZip (λ place e. slice_get new.seen place ≡ Some e) places own

-- ---- jobs

-- whether the job has an entry where its call is answered
abbrev pub is_asked : Config → Job → Bool
is_asked config (Jobs.Packet d) = is_some (request_of config d)
is_asked config Jobs.Lose = true

-- the jobs of a call that have an entry: none after a fault of a disk, nor where memory was wanting
-- and the call noted nothing
abbrev pub with_entries : Config → WorkResult → List Entry → List Job → List Job
with_entries config (Replied handed) own jobs = filter (is_asked config) jobs
with_entries config Lost own jobs = jobs
with_entries config (Refused (HouseFaults.Disk shard)) own jobs = []
with_entries config (Refused HouseFaults.Memory) [] jobs = []
with_entries config (Refused HouseFaults.Memory) (e ∷ own) jobs = filter (is_asked config) jobs

abbrev pub all_with_entries : Config → List WorkCall → List Job
all_with_entries config calls = flat_map (λ c. with_entries config c.result c.own c.jobs) calls

-- the entry is the job's: it came from its datagram, or it has a Lose
abbrev pub IsEntryOf : Job → Entry → Type 0
IsEntryOf (Jobs.Packet d) e = e.from ≡ d
IsEntryOf Jobs.Lose e = (r : Record) × (e.kept ≡ Some r) × (r.change ≡ Changes.Lose)

-- those that aren't faults of a disk
abbrev pub less_faults : List Entry → List Entry
less_faults entries = filter (λ e. not (is_of_fault (entry_kind e))) entries

-- the entries of these calls, less faults, stand in the order of their jobs
abbrev pub StandInOrder : Config → List WorkCall → Type 0
StandInOrder config calls =
    AllZip IsEntryOf (all_with_entries config calls) (less_faults (own_in calls))
