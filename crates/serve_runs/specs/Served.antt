-- How a `serve` ends, and what it leaves (our own).
use Rattle.std.specs.Prelude.{◌≡◌, ◌⊎◌, ℕ, ◌/◌, nat_lt, ◌&&◌, ◌||◌, Bool, true, List, [], ◌∷◌, ◌++◌, map, zip, Option, Some, None, Result, Ok, Err}
use Rattle.std.specs.List.{position_from, slice_get}
use Rattle.std.specs.Io.KnownBytes.{append_known}
use Rattle.pcp_base.specs.declared.configs.Config.{Config}
use Rattle.pcp_announce.specs.Doors.{groups}
use Rattle.pcp_io.specs.Times.{IsTimeNow, Times}
use Rattle.pcp_io.specs.Writes.{WritesPart}
use Rattle.lease_disk.specs.declared.disks.DiskPair.{DiskPair}
use Rattle.shard_book.specs.Books.{BookView}
use Rattle.lease_house.specs.SoloOpenings.{book_updates}
use Rattle.lease_house.specs.declared.faults.HouseFault.{HouseFault}
use Rattle.config_source.specs.declared.reading.ConfigFault.{ConfigFault}
use Rattle.server_commands.specs.declared.statuses.Status.{Status}
use Rattle.server_commands.specs.declared.statuses.Status.TheVariants as Statuses
use Rattle.pcp_server.specs.Opened.{Accepts, IsUnread}
use Rattle.pcp_server.specs.Outsides.{DiskMeanings}
use Rattle.pcp_server.specs.Statuses.{unopened_as, unread_as}
use Rattle.job_dispatch.specs.declared.ports.TheConstants.{ANNOUNCEMENT_PORT}
use Rattle.job_workers.specs.declared.tallies.TallyRow.{TallyRow}
use Rattle.job_workers.specs.Stations.{OutState}
use Rattle.request_workers.specs.declared.faults.ServeFault.{ServeFault}
use Rattle.request_workers.specs.declared.faults.ServeFault.TheVariants as ServeFaults
use Rattle.shared_house.specs.declared.beginning.Begun.{Begun}
use Rattle.shared_house.specs.Beginnings.{Begins, RefusesBegin, first_base}
use Rattle.house_workers.specs.Promised.{AreServedAsPromised}
use Rattle.house_workers.specs.ServingAll.{Edges, ServesToEnd}
use Rattle.serve_runs.specs.TallyTexts.{rows_text}
use Rattle.serve_runs.specs.Updates.{HandsEach}

-- the sink and what it holds, the inbox, the pairs, and what inbox, outboxes, links and clocks tell,
-- at one moment
pub record ServeState (W I D : Type 0) : Type 0 where
  pub out : W
  pub held : Option (List ℕ)
  pub inbox : I
  pub pairs : List (DiskPair D)
  pub edges : Edges

-- The last clock, which is the dispatcher's, was read once: this is the second that it gave.
pub record GivesStart (old new : List (Option Times)) (start : ℕ) : Type 0 where
  pub others : List (Option Times)
  pub before : Option Times
  pub after : Option Times
  pub were : old ≡ others ++ before ∷ []
  pub are : new ≡ others ++ after ∷ []
  pub time : ℕ
  pub gives : IsTimeNow before after time
  pub second : start ≡ time / 1000

-- ---- the end

-- the status once the tally is written
abbrev pub ended_as : Option ℕ → Status
ended_as (Some shard) = Statuses.DiskFault shard
ended_as None = Statuses.Done

module _ {D : Type 0} (lost : D → Bool) where
  -- a side of the pair lost a sync
  abbrev pub is_lost : DiskPair D → Bool
  is_lost pair = lost pair.a || lost pair.b

  -- whether disks refused jobs of an external address, and a side of its pair is lost
  abbrev pub has_failed : TallyRow × DiskPair D → Bool
  has_failed p = nat_lt 0 p.0.faulted && is_lost p.1

  -- the first such external address
  abbrev pub first_lost : List TallyRow → List (DiskPair D) → Option ℕ
  first_lost rows pairs = position_from has_failed 0 (zip rows pairs)

  -- a side of the pair at this place is lost
  pub record IsLostAt (pairs : List (DiskPair D)) (place : ℕ) : Type 0 where
    pub pair : DiskPair D
    pub there : slice_get pairs place ≡ Some pair
    pub lost_side : is_lost pair ≡ true

  -- The lines of the tally are written, and a lost disk is told where there is one. Or a part of the
  -- lines is, where the sink fails; without memory for them, and where serving ended otherwise than by
  -- a stop, nothing is.
  abbrev pub IsToldTo : {W : Type 0} → Result (List TallyRow) ServeFault → List (DiskPair D)
      → (old new : W) → (before now : Option (List ℕ)) → Status → Type 0
  IsToldTo (Ok rows) pairs old new before now status =
      ((status ≡ ended_as (first_lost rows pairs))
      × (now ≡ append_known before (rows_text 0 rows)))
      ⊎ (((status ≡ Statuses.WriteFault) × WritesPart before now (rows_text 0 rows))
      ⊎ ((status ≡ Statuses.Memory) × (new ≡ old)))
  IsToldTo (Err ServeFaults.Read) pairs old new before now status =
      (status ≡ Statuses.ReadFault) × (new ≡ old)
  IsToldTo (Err ServeFaults.Memory) pairs old new before now status =
      (status ≡ Statuses.Memory) × (new ≡ old)
  IsToldTo (Err ServeFaults.Threads) pairs old new before now status =
      (status ≡ Statuses.Memory) × (new ≡ old)

module _ {D : Type 0} where
  -- The updates of a house of these books were sent, each by the outbox of its external address and by
  -- all doors by which its receiver is reached, and the house was served to its end.
  pub record SendsAndServes (disks : DiskMeanings D) (config : Config) (begun : Begun D)
      (books : List (BookView D)) (old new : Edges) (tally : Result (List TallyRow) ServeFault)
      (pairs : List (DiskPair D)) : Type 0 where
    pub outs : List OutState
    pub updates : HandsEach config (map (book_updates (first_base books)) books) old.outs outs
    pub served : ServesToEnd disks.tells disks.seen disks.moment disks.left_since disks.may_leave
        disks.faults config (groups config) ANNOUNCEMENT_PORT begun
        (record old { outs = outs }) new tally pairs

module _ {W I D : Type 0} where
  -- ---- where nothing is served

  -- There is no configuration: it is refused, the source failed, or memory was wanting. Nothing else
  -- had a call.
  pub record EndsUnread (source_before source_now : Option (List ℕ)) (before now : ServeState W I D)
      (status : Status) : Type 0 where
    pub fault : ConfigFault
    pub told : status ≡ unread_as fault
    pub source : IsUnread source_before source_now fault
    pub untouched : now ≡ before

  -- The house wasn't opened: all pairs come back in order, and of the rest the dispatcher's clock
  -- alone had a call.
  pub record EndsUnopened (disks : DiskMeanings D) (config : Config) (before now : ServeState W I D)
      (status : Status) : Type 0 where
    pub start : ℕ
    pub clock : GivesStart before.edges.clocks now.edges.clocks start
    pub fault : HouseFault
    pub told : status ≡ unopened_as fault
    pub pairs : RefusesBegin disks.tells disks.seen disks.moment disks.left_since disks.may_leave
        disks.faults config start fault before.pairs now.pairs
    pub still : now ≡ record before {
      pairs = now.pairs;
      edges = record before.edges { clocks = now.edges.clocks };
    }

  -- ---- where a house is served

  -- The house was opened at the second of the dispatcher's clock, and served to its end, each external
  -- address as it is promised; then the tally was told, and the first disk that was lost.
  pub record EndsServed (disks : DiskMeanings D) (lost : D → Bool) (config : Config)
      (before now : ServeState W I D) (status : Status) : Type 0 where
    pub start : ℕ
    pub clocks : List (Option Times)
    pub clock : GivesStart before.edges.clocks clocks start
    pub begun : Begun D
    pub begins : Begins disks.tells disks.seen disks.moment disks.left_since disks.may_leave
        disks.faults config start before.pairs begun
    pub tally : Result (List TallyRow) ServeFault
    pub serves : SendsAndServes disks config begun begins.books
        (record before.edges { clocks = clocks }) now.edges tally now.pairs
    pub promised : AreServedAsPromised disks.tells disks.seen disks.moment disks.left_since
        disks.may_leave disks.faults config start before.pairs now.pairs serves.outs now.edges.outs
    pub told : IsToldTo lost tally now.pairs before.out now.out before.held now.held status

  -- how a `serve` of this configuration ended
  abbrev pub ServesConfig : DiskMeanings D → (lost : D → Bool) → Config
      → (before now : ServeState W I D) → Status → Type 0
  ServesConfig disks lost config before now status =
      EndsUnopened disks config before now status
      ⊎ EndsServed disks lost config before now status

  -- how a `serve` ended
  abbrev pub Serves : DiskMeanings D → (lost : D → Bool)
      → (source_before source_now : Option (List ℕ)) → (before now : ServeState W I D) → Status
      → Type 0
  Serves disks lost source_before source_now before now status =
      EndsUnread source_before source_now before now status
      ⊎ ((config : Config) × Accepts source_before source_now config
      × ServesConfig disks lost config before now status)
