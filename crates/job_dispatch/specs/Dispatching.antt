-- The dispatcher's run (our own): what it did one after the other, and how it ended.
use Rattle.std.specs.Prelude.{◌≡◌, ◌≤◌, ℕ, ◌/◌, Bool, true, false, List, [], ◌∷◌, Option, Some, None, Result, Ok, Err}
use Rattle.pcp_base.specs.declared.configs.Config.{Config}
use Rattle.pcp_base.specs.declared.errors.Failed.{Failed}
use Rattle.pcp_io.specs.declared.inboxes.InboxItem.{InboxItem}
use Rattle.pcp_io.specs.Faults.{HasRisen}
use Rattle.pcp_io.specs.Takes.{IsNextItem}
use Rattle.pcp_announce.specs.declared.doors.Group.{Group}
use Rattle.job_workers.specs.HouseCalls.{HouseCalls}
use Rattle.job_dispatch.specs.declared.noise.NoiseCounts.{NoiseCounts}
use Rattle.job_dispatch.specs.declared.ports.Port.{Port}
use Rattle.job_dispatch.specs.Announcing.{AnnounceState, Announces}
use Rattle.job_dispatch.specs.Dispatches.{Dispatched, Fate, Given, IsFate, IsLate, Late, NoneWaits, noise_by_fate}
use Rattle.job_dispatch.specs.Noise.{in_second}
use Rattle.job_dispatch.specs.PortsAfter.{ArePortsAfter, dropped_after}

-- the ends of the queues and the rows, what is counted of noise, the announcements, and of the inbox
-- what it tells
pub record DispatchState (P : Type 0) : Type 0 where
  pub ports : List Port
  pub noise : NoiseCounts
  pub announcing : AnnounceState P
  pub left : Option (List InboxItem)
  pub faults : ℕ

module _ {P : Type 0} where
  -- the inbox stopped
  pub record EndsByStop (old new : DispatchState P) : Type 0 where
    pub stop : IsNextItem old.left new.left None
    pub same : (new.ports ≡ old.ports) × (new.noise ≡ old.noise)
        × (new.announcing ≡ old.announcing)

  -- the inbox failed
  pub record EndsByFault (old new : DispatchState P) : Type 0 where
    pub fault : HasRisen old.faults new.faults
    pub same : (new.ports ≡ old.ports) × (new.noise ≡ old.noise)
        × (new.announcing ≡ old.announcing) × (new.left ≡ old.left)

  abbrev pub EndsDispatcher : DispatchState P → DispatchState P → Result (Unit {0}) Failed → Type 0
  EndsDispatcher old new (Ok done) = EndsByStop old new
  EndsDispatcher old new (Err fault) = EndsByFault old new

module _ {P : Type 0} (house : HouseCalls P) (config : Config) (groups : List Group) (port : ℕ)
  where
    -- The inbox gave the item, announcements were made, and the item has this fate, by the noise
    -- of this second of the clock. The inbox's count hasn't fallen.
    pub record DoesItem (item : InboxItem) (fate : Fate) (old new : DispatchState P) : Type 0 where
      pub given : IsNextItem old.left new.left (Some item)
      pub later : old.faults ≤ new.faults
      pub time : ℕ
      pub announced : Announces house groups port time old.announcing new.announcing
      pub becomes : IsFate config (in_second old.noise (time / 1000)) item fate old.ports new.ports
      pub noise : new.noise
          ≡ noise_by_fate config (in_second old.noise (time / 1000)) fate

    -- an item came, or a loss that waited was put, which changes that port alone
    abbrev pub DoesStep : Dispatched → DispatchState P → DispatchState P → Type 0
    DoesStep (Given item fate) old new = DoesItem item fate old new
    DoesStep (Late shard) old new =
        IsLate shard old.ports new.ports × (new ≡ record old { ports = new.ports })

    abbrev pub DoesSteps : List Dispatched → DispatchState P → DispatchState P → Type 0
    DoesSteps [] old new = new ≡ old
    DoesSteps (d ∷ ds) old new =
        (mid : DispatchState P) × DoesStep d old mid × DoesSteps ds mid new

    abbrev pub IsItemTurn : DispatchState P → DispatchState P → Result Bool Failed → Type 0
    IsItemTurn old new (Ok true) =
        (item : InboxItem) × (fate : Fate) × DoesItem item fate old new
    IsItemTurn old new (Ok false) = EndsByStop old new
    IsItemTurn old new (Err fault) = EndsByFault old new

    -- steps one after the other, until the inbox stopped or failed
    pub record RunsItems (old new : DispatchState P) (result : Result (Unit {0}) Failed)
        : Type 0 where
      pub dispatched : List Dispatched
      pub last : DispatchState P
      pub does : DoesSteps dispatched old last
      pub ends : EndsDispatcher last new result

    -- Steps one after the other, and how it ended: Ok only where the inbox stopped. The losses that
    -- waited then were put before the end.
    pub record RunsDispatcher (old new : DispatchState P) (result : Result (Unit {0}) Failed)
        : Type 0 where
      pub dispatched : List Dispatched
      pub last : DispatchState P
      pub does : DoesSteps dispatched old last
      pub ends : EndsDispatcher last new result
      -- so each port has put, and counted, what the fates say
      pub ports : ArePortsAfter 0 dispatched old.ports new.ports
      -- and so much noise was dropped
      pub dropped : new.noise.dropped ≡ dropped_after old.noise.dropped dispatched
      -- and no loss waits
      pub none_waits : NoneWaits new.ports
