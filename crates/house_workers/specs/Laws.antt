-- What holds of the run of an external address (our own).
use Rattle.std.specs.Prelude.{◌≡◌, ◌⊎◌, ℕ, ◌*◌, ◌<◌, ◌≤◌, List, Ok, Result, Some}
use Rattle.std.specs.List.{AllByRecursion, slice_get, sum_by}
use Rattle.pcp_base.specs.declared.configs.Config.{Config}
use Rattle.pcp_base.specs.declared.configs.External.{External}
use Rattle.pcp_base.specs.declared.datagrams.Entry.{Entry}
use Rattle.pcp_base.specs.declared.records.Record.{Record}
use Rattle.pcp_base.specs.Apply.{apply_all}
use Rattle.pcp_base.specs.States.{State}
use Rattle.pcp_announce.specs.declared.doors.Group.{Group}
use Rattle.lease_disk.specs.declared.disks.DiskPair.{DiskPair}
use Rattle.lease_disk.specs.Pairs.{PairHasCause}
use Rattle.shard_book.specs.Books.{BookView}
use Rattle.lease_histories.specs.Entries.{Served}
use Rattle.lease_house.specs.SoloOpenings.{OpensOne}
use Rattle.job_queue.specs.declared.batches.TheConstants.{MOST_BATCH}
use Rattle.job_queue.specs.declared.jobs.TheConstants.{MOST_JOBS}
use Rattle.job_workers.specs.declared.tallies.TallyRow.{TallyRow}
use Rattle.job_workers.specs.Sends.{HasRisenBy}
use Rattle.job_workers.specs.Works.{unsent_in}
use Rattle.job_dispatch.specs.Dispatches.{Dispatched}
use Rattle.request_workers.specs.declared.faults.ServeFault.{ServeFault}
use Rattle.request_workers.specs.Counts.{Counts}
use Rattle.request_workers.specs.Served.{IsShardRun, ShardRun, out_of}
use Rattle.turned_shards.specs.declared.openings.Opening.{Opening}
use Rattle.turned_shards.specs.declared.passes.HousePass.{HousePass}
use Rattle.turned_shards.specs.Crashes.{StandsAlong, doubts_in}
use Rattle.turned_shards.specs.FaultCounts.{HaveRisenBy}
use Rattle.shared_house.specs.Beginnings.{Begins, first_base}
use Rattle.shared_house.specs.HouseCalls.{BeginsAt, HouseView}
use Rattle.shared_house.specs.declared.beginning.Begun.{Begun}
use Rattle.turned_shards.specs.Turnings.{EndsOne}
use Rattle.house_workers.specs.Crashes.{IsRecovered, KeepsAcknowledged, KeepsServed}
use Rattle.house_workers.specs.HouseCallsOf.{IsOpeningOf, calls_of}
use Rattle.house_workers.specs.OwnEntries.{HandsReplies, NotesInOrder, StandInOrder, answered_in, own_in}
use Rattle.house_workers.specs.Promised.{AreServedAsPromised}
use Rattle.house_workers.specs.Raised.{IsMomentOf, RaisesBases}
use Rattle.house_workers.specs.ServingAll.{Edges, ServesToEnd}

-- jobs were dropped at a full queue only where at least `MOST_JOBS` were put, which were all taken
abbrev pub IsFilled : TallyRow → Type 0
IsFilled row = 0 < row.full → MOST_JOBS ≤ row.taken

-- The base of a state is that with which its records began, or the moment of one of them that rebases.
abbrev pub BasesAreMoments : Type 0
BasesAreMoments = (opening : State) (records : List Record) →
    ((apply_all opening records).base ≡ opening.base)
    ⊎ IsMomentOf opening records (apply_all opening records).base

module _ (D : Type 0) (tells : Type 0) (seen : D → List ℕ) (moment : D → ℕ)
    (left_since : D → ℕ → List ℕ → Type 0) (may_leave : D → List ℕ → Type 0) (faults : D → ℕ)
  where
    -- this external address was served by this house
    abbrev pub IsRunOf : HouseView D → ℕ → List Dispatched → ShardRun (HousePass D) → Type 0
    IsRunOf house = IsShardRun (calls_of tells seen moment left_since may_leave faults house)

    -- The entries of its worker stand in the history that its pass has seen, in order and each once.
    abbrev pub OwnEntriesAreNoted : Type 0
    OwnEntriesAreNoted = (house : HouseView D) (shard : ℕ) (ds : List Dispatched)
        (r : ShardRun (HousePass D)) → (is : IsRunOf house shard ds r) →
        NotesInOrder r.old.pass.history r.new.pass.history (own_in is.works.calls)

    -- Less the faults they stand in the order of the jobs that the worker took.
    abbrev pub OwnEntriesAreInOrder : Type 0
    OwnEntriesAreInOrder = (house : HouseView D) (shard : ℕ) (ds : List Dispatched)
        (r : ShardRun (HousePass D)) → (is : IsRunOf house shard ds r) →
        StandInOrder house.config is.works.calls

    -- Its outbox was handed the replies of those entries whose batch was answered, in order.
    abbrev pub RepliesAreOfOwnEntries : Type 0
    RepliesAreOfOwnEntries = (house : HouseView D) (shard : ℕ) (ds : List Dispatched)
        (r : ShardRun (HousePass D)) → (is : IsRunOf house shard ds r) →
        HandsReplies (answered_in is.works.calls) (out_of r.old) (out_of r.new)

    -- Its row counts the jobs that were put for it, what its calls did with them, and what was
    -- dropped.
    abbrev pub JobsAreCounted : Type 0
    JobsAreCounted = (house : HouseView D) (shard : ℕ) (ds : List Dispatched)
        (r : ShardRun (HousePass D)) → (is : IsRunOf house shard ds r) →
        Counts shard ds is.works.calls r.row

    -- Replies count as unsent only where the count of its outbox rose, once for each.
    abbrev pub UnsentAreCounted : Type 0
    UnsentAreCounted = (house : HouseView D) (shard : ℕ) (ds : List Dispatched)
        (r : ShardRun (HousePass D)) → (is : IsRunOf house shard ds r) →
        HasRisenBy (sum_by (λ c. unsent_in c.result) is.works.calls) r.old.faults r.new.faults

    -- so many faults of disks at most were counted for each rise of the pair's counts
    pub record AreFewFaults (o : Opening D) (pair : DiskPair D) (faulted : ℕ) : Type 0 where
      pub risen : ℕ
      pub few : faulted ≤ MOST_BATCH * risen
      pub counted : HaveRisenBy faults o.book.journal.pair pair risen

    -- Jobs are counted as faulted only where the counts of the pair have risen since the opening, at
    -- most `MOST_BATCH` for each time.
    abbrev pub FaultsAreCounted : Type 0
    FaultsAreCounted = (house : HouseView D) (shard : ℕ) (ds : List Dispatched)
        (r : ShardRun (HousePass D)) → IsRunOf house shard ds r →
        (o : Opening D) (ended : HousePass D) (pair : DiskPair D) →
        EndsOne tells seen moment left_since may_leave faults o r.new.pass ended pair →
        AreFewFaults o pair r.row.faulted

    -- Where a row of the tally counts jobs as faulted, a count of the pair of its external address has
    -- risen since the call's start. No such count has fallen.
    abbrev pub FaultedRowsHaveCauses : Type 0
    FaultedRowsHaveCauses = (config : Config) (groups : List Group) (port m : ℕ)
        (before pairs : List (DiskPair D)) (begun : Begun D) (old new : Edges)
        (rows : List TallyRow) →
        Begins tells seen moment left_since may_leave faults config m before begun →
        ServesToEnd tells seen moment left_since may_leave faults config groups port begun old new
        (Ok rows) pairs →
        (place : ℕ) (row : TallyRow) (now : DiskPair D) →
        slice_get rows place ≡ Some row → slice_get pairs place ≡ Some now →
        (p : DiskPair D) × (slice_get before place ≡ Some p)
        × PairHasCause faults p now (0 < row.faulted)

    -- So it is with each row that serving tells at its end.
    abbrev pub FullQueuesWereFilled : Type 0
    FullQueuesWereFilled = (config : Config) (groups : List Group) (port : ℕ) (begun : Begun D)
        (old new : Edges) (rows : List TallyRow) (pairs : List (DiskPair D)) →
        ServesToEnd tells seen moment left_since may_leave faults config groups port begun old new
        (Ok rows) pairs →
        AllByRecursion IsFilled rows

    -- Where the house was ended behind its serving, each entry of an answered batch is kept.
    abbrev pub AcknowledgedEntriesAreKept : Type 0
    AcknowledgedEntriesAreKept = (house : HouseView D) (shard : ℕ) (ds : List Dispatched)
        (r : ShardRun (HousePass D)) → (is : IsRunOf house shard ds r) →
        (o : Opening D) (ended : HousePass D) (pair : DiskPair D) →
        (ends : EndsOne tells seen moment left_since may_leave faults o r.new.pass ended pair) →
        KeepsAcknowledged tells may_leave o (doubts_in ended.history.marks) (answered_in is.works.calls)
        ended.history.seen pair

    -- A house that was opened, served and ended, whatever serving answered: at each moment since the
    -- call's start a crash leaves of the pair of each external address what is said here, along the
    -- history that its pass has seen at the end.
    abbrev pub CrashesAreAlongHistories : Type 0
    CrashesAreAlongHistories = (config : Config) (groups : List Group) (port m : ℕ)
        (before pairs : List (DiskPair D)) (begun : Begun D) (old new : Edges)
        (result : Result (List TallyRow) ServeFault) →
        Begins tells seen moment left_since may_leave faults config m before begun →
        (serves : ServesToEnd tells seen moment left_since may_leave faults config groups port begun
        old new result pairs) →
        (place : ℕ) (x : External) (p now : DiskPair D) (last : HousePass D) →
        slice_get config.externals place ≡ Some x → slice_get before place ≡ Some p →
        slice_get pairs place ≡ Some now → slice_get serves.ended place ≡ Some last →
        (o : Opening D)
        × (doubts : List (List Entry))
        × KeepsServed tells seen moment left_since may_leave m x o doubts last.history.seen p now

    -- And so each external address was served as it is promised.
    abbrev pub PromisesAreKept : Type 0
    PromisesAreKept = (config : Config) (groups : List Group) (port m : ℕ)
        (before pairs : List (DiskPair D)) (begun : Begun D) (old new : Edges)
        (result : Result (List TallyRow) ServeFault) →
        Begins tells seen moment left_since may_leave faults config m before begun →
        ServesToEnd tells seen moment left_since may_leave faults config groups port begun old new
        result pairs →
        AreServedAsPromised tells seen moment left_since may_leave faults config m before pairs
        old.outs new.outs

    -- What an opening finds of sides that a crash has left.
    abbrev pub CrashesAreRecovered : Type 0
    CrashesAreRecovered = (served : Served) (opening : State) (doubts : List (List Entry))
        (log : List Entry) (config : Config) (m : ℕ) (x : External) (pair : DiskPair D)
        (book : BookView D) → tells →
        StandsAlong served opening doubts log (seen pair.a) (seen pair.b) →
        OpensOne tells seen moment left_since may_leave faults config m x pair book →
        IsRecovered served opening doubts log m x.address book.state

    -- What its pass has raised at the end is what it had raised before, or a base of its history.
    abbrev pub RaisedMomentsAreBases : Type 0
    RaisedMomentsAreBases = (house : HouseView D) (shard : ℕ) (ds : List Dispatched)
        (r : ShardRun (HousePass D)) → IsRunOf house shard ds r →
        (o : Opening D) → IsOpeningOf house r.old.pass o →
        RaisesBases o.book.state r.new.pass.history.seen r.old.pass.epoch.raised
        r.new.pass.epoch.raised

    -- Of a house that was opened, served and ended: what the pass of each external address has raised is
    -- the greatest base that the openings found, or a base of its own history. The epoch word is the
    -- greatest of all that was raised (`word_is_the_greatest`), and the dispatcher's pass raises nothing.
    abbrev pub HousesRaiseBases : Type 0
    HousesRaiseBases = (config : Config) (groups : List Group) (port m : ℕ)
        (before pairs : List (DiskPair D)) (begun : Begun D) (old new : Edges)
        (result : Result (List TallyRow) ServeFault) →
        (begins : Begins tells seen moment left_since may_leave faults config m before begun) →
        (serves : ServesToEnd tells seen moment left_since may_leave faults config groups port begun
        old new result pairs) →
        (place : ℕ) (o : Opening D) (last : HousePass D) →
        BeginsAt begun.house place o → slice_get serves.ended place ≡ Some last →
        RaisesBases o.book.state last.history.seen (first_base begins.books) last.epoch.raised
