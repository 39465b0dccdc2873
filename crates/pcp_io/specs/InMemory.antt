-- The forms of the outside in memory (our own).
use Rattle.std.specs.Prelude.{ℕ, ◌+◌, ◌<◌, ◌⊎◌, List, [], length, map, sum, Option}
use Rattle.pcp_base.specs.declared.datagrams.Datagram.{Datagram}
use Rattle.pcp_base.specs.declared.leases.Endpoint.{Endpoint}
use Rattle.pcp_io.specs.declared.inboxes.InboxItem.{InboxItem}
use Rattle.pcp_io.specs.declared.lane_links.LaneAsk.{LaneAsk}
use Rattle.pcp_io.specs.Takes.{cut_item}
use Rattle.pcp_io.specs.CallLogs.{CallLog, no_calls, IsNamed}

pub record SourceInMemory : Type 0 where
  -- the octets that reads have yet to give
  pub left : List ℕ
  pub calls : CallLog

pub record SinkInMemory : Type 0 where
  -- the octets that it took
  pub held : List ℕ
  -- how many octets it may hold
  pub room : ℕ
  pub calls : CallLog

-- a source that will give these octets
abbrev pub new_source : List ℕ → SourceInMemory
new_source octets = record { left = octets; calls = no_calls }

-- a sink that holds nothing
abbrev pub new_sink : ℕ → SinkInMemory
new_sink room = record { held = []; room = room; calls = no_calls }

-- the next write is to fail, or the piece would pass the room
abbrev pub IsWriteRefused : SinkInMemory → List ℕ → Type 0
IsWriteRefused sink piece = IsNamed sink.calls ⊎ (sink.room < length sink.held + length piece)

pub record InboxInMemory : Type 0 where
  -- the items that takes have yet to give
  pub left : List InboxItem
  pub calls : CallLog

-- an inbox that will give these items, with datagrams cut
abbrev pub new_inbox : List InboxItem → InboxInMemory
new_inbox items = record { left = map cut_item items; calls = no_calls }

pub record OutboxInMemory : Type 0 where
  -- the datagrams that it took
  pub sent : List Datagram
  -- how many octets these may have
  pub room : ℕ
  pub calls : CallLog

-- an outbox that took nothing
abbrev pub new_outbox : ℕ → OutboxInMemory
new_outbox room = record { sent = []; room = room; calls = no_calls }

-- how many octets these datagrams have
abbrev pub octets_in : List Datagram → ℕ
octets_in datagrams = sum (map (λ d. length d.octets) datagrams)

-- the next send is to fail, or the octets would pass the room
abbrev pub IsSendRefused : OutboxInMemory → List ℕ → Type 0
IsSendRefused outbox octets =
    IsNamed outbox.calls ⊎ (outbox.room < octets_in outbox.sent + length octets)

pub record LaneInMemory : Type 0 where
  -- what it will ask
  pub asks : List LaneAsk
  -- the answers that it took
  pub answers : List (Option Endpoint)
  pub calls : CallLog

-- a link that will ask this
abbrev pub new_lane : List LaneAsk → LaneInMemory
new_lane asks = record { asks = asks; answers = []; calls = no_calls }
