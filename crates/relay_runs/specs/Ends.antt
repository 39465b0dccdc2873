-- The run of a relay (our own): what came, what was handed on, and how it ended.
use Rattle.std.specs.Prelude.{◌≡◌, ℕ, List, [], ◌∷◌, ◌++◌, map, Option, IfSome, option_map}
use Rattle.pcp_base.specs.declared.addresses.Address.{Address}
use Rattle.pcp_io.specs.declared.inboxes.InboxItem.{InboxItem}
use Rattle.pcp_io.specs.Faults.{HasRisen}
use Rattle.pcp_io.specs.Times.{Times, IsTimeNow}
use Rattle.proxy_core.specs.Runs.{Event}
use Rattle.proxy_core.specs.Runs.Event.{Tick}
use Rattle.tool_commands.specs.declared.statuses.ToolStatus.{ToolStatus}
use Rattle.tool_commands.specs.declared.statuses.ToolStatus.TheVariants.{Done, LinkFault, Memory}
use Rattle.relay_runs.specs.Handing.{Hands, Told}
use Rattle.relay_runs.specs.Machines.{Machine}
use Rattle.relay_runs.specs.Sending.{down_for_all, up_for_all}
use Rattle.relay_runs.specs.Turns.{IsPacket, Turn, events_of}

-- what the outbox to clients tells, and the one to the server
pub record Outs : Type 0 where
  pub down : Told
  pub up : Told

-- what outboxes, inbox and clock tell
pub record Links : Type 0 where
  pub outs : Outs
  -- the items that the inbox will give, where it tells them
  pub left : Option (List InboxItem)
  pub faults : ℕ
  -- the times that the clock will give, where it tells them
  pub times : Option Times

-- these items are in front of those that are left now
abbrev pub left_with : List InboxItem → Option (List InboxItem) → Option (List InboxItem)
left_with items now = option_map (λ rest. items ++ rest) now

-- the clock told these times, one after the other
abbrev pub TellsTimes : List ℕ → Option Times → Option Times → Type 0
TellsTimes [] old new = new ≡ old
TellsTimes (time ∷ times) old new =
    (mid : Option Times) × IsTimeNow old mid time × TellsTimes times mid new

module _ {S : Type 0} (m : Machine S) (server : Address) (start : S) where
  -- Turns were taken: the inbox gave their items, and the clock told one time for each. What the
  -- relay gives for these events was handed on, in order and each once.
  pub record Relays (taken : List Turn) (events : List Event) (old new : Links) : Type 0 where
    pub items : old.left ≡ left_with (map (λ t. t.item) taken) new.left
    pub times : TellsTimes (map (λ t. t.time) taken) old.times new.times
    pub down : Hands (down_for_all m start events) old.outs.down new.outs.down
    pub up : Hands (up_for_all m server start events) old.outs.up new.outs.up

  -- the inbox gave a stop: nothing is left
  pub record EndsByStop (old new : Links) : Type 0 where
    pub turns : List Turn
    pub relays : Relays turns (events_of server turns) old new
    pub stop : IfSome new.left (λ items. items ≡ [])

  -- the inbox failed
  pub record EndsByFault (old new : Links) : Type 0 where
    pub turns : List Turn
    pub relays : Relays turns (events_of server turns) old new
    pub fault : HasRisen old.faults new.faults

  -- no memory was found for the packet that was taken last: of that turn only the tick was done
  pub record EndsByMemory (old new : Links) : Type 0 where
    pub turns : List Turn
    pub last : Turn
    pub relays : Relays (turns ++ last ∷ [])
        (events_of server turns ++ Tick last.time ∷ []) old new
    pub packet : IsPacket last.item

  -- how a relay's run ended, by its status
  abbrev pub EndsRelay : ToolStatus → Links → Links → Type 0
  EndsRelay Done old new = EndsByStop old new
  EndsRelay LinkFault old new = EndsByFault old new
  EndsRelay Memory old new = EndsByMemory old new
  EndsRelay other old new = ⊥
