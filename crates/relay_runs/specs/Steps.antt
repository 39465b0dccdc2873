-- What a relay did for some events, and how a turn of its loop went (our own; for private
-- contracts).
use Rattle.std.specs.Prelude.{◌≡◌, ◌≤◌, List, [], ◌∷◌, Option, Some, None}
use Rattle.pcp_base.specs.declared.addresses.Address.{Address}
use Rattle.pcp_io.specs.Faults.{HasRisen}
use Rattle.pcp_io.specs.Takes.{IsNextItem}
use Rattle.pcp_io.specs.Times.{IsTimeNow}
use Rattle.proxy_core.specs.Runs.{Event}
use Rattle.proxy_core.specs.Runs.Event.{Tick}
use Rattle.tool_commands.specs.declared.statuses.ToolStatus.{ToolStatus}
use Rattle.tool_commands.specs.declared.statuses.ToolStatus.TheVariants.{Done, LinkFault, Memory}
use Rattle.relay_runs.specs.Ends.{Links, Outs}
use Rattle.relay_runs.specs.Handing.{Hands}
use Rattle.relay_runs.specs.Machines.{Machine, run}
use Rattle.relay_runs.specs.Sending.{down_for_all, up_for_all}
use Rattle.relay_runs.specs.Turns.{IsPacket, Turn, turn_events}

-- the inbox gave the item of this turn, and the clock its time
pub record Takes (turn : Turn) (old new : Links) : Type 0 where
  pub given : IsNextItem old.left new.left (Some turn.item)
  pub time : IsTimeNow old.times new.times turn.time
  pub later : old.faults ≤ new.faults

-- nothing was sent, and no time was read
pub record StandsStill (old new : Links) : Type 0 where
  pub outs : new.outs ≡ old.outs
  pub times : new.times ≡ old.times

module _ {S : Type 0} (m : Machine S) (server : Address) where
  -- the events came to the relay, and what it gives for them was handed on
  pub record Does (events : List Event) (before after : S) (old new : Outs) : Type 0 where
    pub relay : after ≡ run m before events
    pub down : Hands (down_for_all m before events) old.down new.down
    pub up : Hands (up_for_all m server before events) old.up new.up

  -- no memory was found for the packet of a turn, whose tick was done
  pub record Starves (before : S) (old new : Links) : Type 0 where
    pub turn : Turn
    pub takes : Takes turn old new
    pub packet : IsPacket turn.item
    pub ticked : S
    pub does : Does (Tick turn.time ∷ []) before ticked old.outs new.outs

  -- how a turn went: the loop goes on, or it ended with this status
  abbrev pub IsTurn : S → S → Option ToolStatus → Links → Links → Type 0
  IsTurn before after None old new =
      (turn : Turn) × Takes turn old new
      × Does (turn_events server turn) before after old.outs new.outs
  IsTurn before after (Some Done) old new =
      IsNextItem old.left new.left None × StandsStill old new
  IsTurn before after (Some LinkFault) old new =
      (new.left ≡ old.left) × HasRisen old.faults new.faults × StandsStill old new
  IsTurn before after (Some Memory) old new = Starves before old new
  IsTurn before after (Some other) old new = ⊥
