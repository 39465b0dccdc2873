-- What the items of an inbox are to a relay (our own). Times are in milliseconds.
use Rattle.std.specs.Prelude.{ℕ, List, [], ◌∷◌, flat_map, if◌then◌else◌, ⊤}
use Rattle.pcp_base.specs.declared.addresses.Address.{Address}
use Rattle.pcp_base.specs.declared.datagrams.Datagram.{Datagram}
use Rattle.pcp_base.specs.Tables.{same_address}
use Rattle.pcp_io.specs.declared.inboxes.InboxItem.{InboxItem}
use Rattle.pcp_io.specs.declared.inboxes.InboxItem.TheVariants.{Packet, Lose, Status, Quiet}
use Rattle.proxy_core.specs.Runs.{Event}
use Rattle.proxy_core.specs.Runs.Event.{Client, Server, Tick}

-- an item that the inbox gave, and the time that the clock told for it
pub record Turn : Type 0 where
  pub item : InboxItem
  pub time : ℕ

-- a datagram whose peer is the server came from upstream, any other of a client
abbrev pub packet_event : Address → Datagram → ℕ → Event
packet_event server d time =
    if same_address d.peer server then Server d time else Client d time

abbrev pub event_of : Address → InboxItem → ℕ → List Event
event_of server (Packet d) time = packet_event server d time ∷ []
event_of server (Lose order address) time = []
event_of server (Status order) time = []
event_of server Quiet time = []

-- a tick, and then the item at the same time
abbrev pub turn_events : Address → Turn → List Event
turn_events server turn = Tick turn.time ∷ event_of server turn.item turn.time

abbrev pub events_of : Address → List Turn → List Event
events_of server turns = flat_map (turn_events server) turns

abbrev pub IsPacket : InboxItem → Type 0
IsPacket (Packet d) = ⊤
IsPacket (Lose order address) = ⊥
IsPacket (Status order) = ⊥
IsPacket Quiet = ⊥
