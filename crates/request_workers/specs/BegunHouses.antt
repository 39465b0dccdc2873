-- Serving a house that has begun, from its passes to the tally (our own).
use Rattle.std.specs.Prelude.{◌≡◌, ℕ, Bool, List, length, Result, Ok, Err}
use Rattle.pcp_base.specs.declared.configs.Config.{Config}
use Rattle.pcp_base.specs.declared.errors.Failed.{Failed}
use Rattle.pcp_announce.specs.declared.doors.Group.{Group}
use Rattle.pcp_io.specs.Faults.{HasRisen}
use Rattle.lane_loops.specs.LaneSets.{lane_states}
use Rattle.job_workers.specs.declared.tallies.TallyRow.{TallyRow}
use Rattle.job_workers.specs.HouseCalls.{HouseCalls}
use Rattle.request_workers.specs.declared.faults.RunFault.{RunFault}
use Rattle.request_workers.specs.declared.faults.RunFault.TheVariants as RunFaults
use Rattle.request_workers.specs.declared.faults.ServeFault.{ServeFault}
use Rattle.request_workers.specs.declared.faults.ServeFault.TheVariants as ServeFaults
use Rattle.request_workers.specs.Parts.{ArePartsOf, BegunState, Ends, Spares}
use Rattle.request_workers.specs.Passes.{SplitsFirst}
use Rattle.request_workers.specs.Seats.{ArePasses}
use Rattle.request_workers.specs.Served.{ServesAll}

-- what a run's fault is to who serves
abbrev pub served_as : RunFault → ServeFault
served_as (RunFaults.Inbox fault) = ServeFaults.Read
served_as RunFaults.Threads = ServeFaults.Threads

module _ {P : Type 0} (house : HouseCalls P) (config : Config) (groups : List Group) (port : ℕ)
    (fresh : Bool) where
  -- All was served, by the outboxes, links and clocks of the external addresses that there are. The
  -- others are as they were.
  pub record ServesParts (asking asked : P) (old new : BegunState P)
      (read : Result (Unit {0}) RunFault) (rows : List TallyRow) : Type 0 where
    pub spare : Spares
    pub before : Ends
    pub after : Ends
    pub parts_were : ArePartsOf (length config.externals) before spare old
    pub parts_are : ArePartsOf (length config.externals) after spare new
    pub serves : ServesAll house config groups port fresh asking asked before.out after.out
        before.clock after.clock old.left new.left old.faults new.faults read
        before.outs after.outs before.clocks after.clocks
        (lane_states old.lanes before.links before.lane_clocks)
        (lane_states new.lanes after.links after.lane_clocks)
        old.passes new.passes rows

  -- A pass for the dispatcher was split off the first one, and all was served. The passes that come
  -- back are those of the house still, in order.
  pub record ServesBegun (old new : BegunState P) (read : Result (Unit {0}) RunFault)
      (rows : List TallyRow) : Type 0 where
    pub passes : List P
    pub asking : P
    pub asked : P
    pub splits : SplitsFirst house old.passes passes asking
    pub served : ServesParts asking asked (record old { passes = passes }) new read rows
    pub stay : ArePasses house 0 new.passes
    pub count : length new.passes ≡ length old.passes

  -- All was served until the inbox failed, whose count rose.
  pub record FailsToRead (old new : BegunState P) : Type 0 where
    pub fault : Failed
    pub rows : List TallyRow
    pub served : ServesBegun old new (Err (RunFaults.Inbox fault)) rows
    pub risen : HasRisen old.faults new.faults

  -- Threads were missing: what serves did all but dispatch. The inbox is as it was.
  pub record LacksThreads (old new : BegunState P) : Type 0 where
    pub rows : List TallyRow
    pub served : ServesBegun old new (Err RunFaults.Threads) rows
    pub inbox : (new.left ≡ old.left) × (new.faults ≡ old.faults)

  -- Ok comes only after a stop. Without memory nothing was served, and all is as it was.
  abbrev pub AnswersBegun : (old new : BegunState P) → Result (List TallyRow) ServeFault → Type 0
  AnswersBegun old new (Ok rows) = ServesBegun old new (Ok tt) rows
  AnswersBegun old new (Err ServeFaults.Read) = FailsToRead old new
  AnswersBegun old new (Err ServeFaults.Memory) = new ≡ old
  AnswersBegun old new (Err ServeFaults.Threads) = LacksThreads old new
