-- A house of plain states on one thread, and what each call does to it (our own). Each entry is at
-- the moment that is reached, and tells the greatest base of all external addresses.
use Rattle.std.specs.Prelude.{ℕ, max, Bool, List, [], ◌∷◌, map, is_some, replicate, Option, Some, None, slice_set}
use Rattle.std.specs.List.{slice_get, cons_option}
use Rattle.std.specs.Option.{option_map, option_map_or, option_and_then}
use Rattle.pcp_base.specs.declared.addresses.Address.{Address}
use Rattle.pcp_base.specs.declared.configs.Config.{Config}
use Rattle.pcp_base.specs.declared.configs.External.{External}
use Rattle.pcp_base.specs.declared.datagrams.Datagram.{Datagram}
use Rattle.pcp_base.specs.declared.datagrams.Entry.{Entry}
use Rattle.pcp_base.specs.declared.leases.Endpoint.{Endpoint}
use Rattle.pcp_base.specs.declared.leases.Owner.{Owner}
use Rattle.pcp_base.specs.declared.leases.Protocol.{Protocol}
use Rattle.pcp_base.specs.declared.records.Change.TheVariants.{Lose}
use Rattle.pcp_base.specs.declared.records.Record.{Record}
use Rattle.pcp_base.specs.Apply.{apply}
use Rattle.pcp_base.specs.States.{State}
use Rattle.filter_rules.specs.Lookups.{look}
use Rattle.lease_store.specs.Lookups.{covering, lease_count}
use Rattle.lease_store.specs.OwnerOrder.{owners_in_order}
use Rattle.lease_histories.specs.Routes.{route_of}
use Rattle.lease_histories.specs.Entries.{Served, Request, request_of, request_entry}
use Rattle.lease_histories.specs.HouseHistories.{HouseEntry, greatest}

-- the state with what is kept of an entry
abbrev pub with_kept : State → Option Record → State
with_kept s None = s
with_kept s (Some r) = apply s r

-- an external address: its state, and the moment of its last entry or record
pub record PlainShard : Type 0 where
  pub external : External
  pub state : State
  pub last : ℕ

pub record PlainHouse : Type 0 where
  pub config : Config
  -- by the index of the external address
  pub shards : List PlainShard

abbrev pub greatest_base : PlainHouse → ℕ
greatest_base house = greatest (map (λ s. s.state.base) house.shards)

-- the moment at which a call at `now` comes
abbrev pub raised : ℕ → PlainShard → ℕ
raised now shard = max now shard.last

-- ---- entries

-- the external address, as it is served
abbrev pub served_at : PlainHouse → ℕ → PlainShard → Served
served_at house place shard =
    record { config = house.config; place = place; external = shard.external }

-- the entry that a request makes of the external address to which it goes
abbrev pub entry_by : PlainHouse → ℕ → Datagram → Option PlainShard → Option Request → Option Entry
entry_by house now from (Some shard) (Some request) =
    Some (request_entry (served_at house (route_of house.config from) shard) shard.state
    (raised now shard) (greatest_base house) from request)
entry_by house now from None request = None
entry_by house now from (Some shard) None = None

-- the entry of a datagram at `now`; none where it is silent
abbrev pub packet_entry : PlainHouse → ℕ → Datagram → Option Entry
packet_entry house now from =
    entry_by house now from (slice_get house.shards (route_of house.config from))
    (request_of house.config from)

-- who sends nothing
abbrev pub nobody : Datagram
nobody = record { peer = record { 0 = replicate 16 0 }; port = 0; door = 0; octets = [] }

-- the entry of a loss: it tells a base no less than its moment
abbrev pub loss_of : PlainHouse → ℕ → Entry
loss_of house m = record {
  moment = m;
  from = nobody;
  reply = [];
  kept = Some (record { moment = m; change = Lose });
  base = max (greatest_base house) m;
}

abbrev pub loss_entry : PlainHouse → ℕ → ℕ → Option Entry
loss_entry house place now =
    option_map (λ s. loss_of house (raised now s)) (slice_get house.shards place)

-- with one entry more of the external address at this place
abbrev pub shard_after : PlainShard → Entry → PlainShard
shard_after shard e = record shard { state = with_kept shard.state e.kept; last = e.moment }

abbrev pub add_by : PlainHouse → ℕ → Option PlainShard → Option Entry → PlainHouse
add_by house place (Some shard) (Some e) =
    record house { shards = slice_set house.shards place (shard_after shard e) }
add_by house place None e = house
add_by house place (Some shard) None = house

abbrev pub add_entry : PlainHouse → ℕ → Option Entry → PlainHouse
add_entry house place e = add_by house place (slice_get house.shards place) e

-- ---- what a call does

abbrev pub packet_after : PlainHouse → ℕ → Datagram → PlainHouse
packet_after house now from =
    add_entry house (route_of house.config from) (packet_entry house now from)

-- the reply to a datagram; none where it is silent
abbrev pub packet_reply : PlainHouse → ℕ → Datagram → Option (List ℕ)
packet_reply house now from = option_map (λ e. e.reply) (packet_entry house now from)

-- all leases of the external address are lost
abbrev pub lose_after : PlainHouse → ℕ → ℕ → PlainHouse
lose_after house place now = add_entry house place (loss_entry house place now)

-- how many were live before
abbrev pub lost_count : PlainHouse → ℕ → ℕ → ℕ
lost_count house place now =
    option_map_or (λ s. lease_count s.state.table (raised now s)) (slice_get house.shards place) 0

-- ---- what is looked up, at a moment raised to that of the last record

abbrev pub at_last : ℕ → PlainShard → ℕ
at_last m shard = max m shard.state.last

abbrev pub look_in : PlainHouse → ℕ → Protocol → ℕ → Address → ℕ → ℕ → Option Endpoint
look_in house place protocol port remote remote_port m =
    option_and_then (λ s. look s.state protocol port remote remote_port m)
    (slice_get house.shards place)

abbrev pub owners_in : PlainHouse → ℕ → ℕ → List Owner
owners_in house place m =
    option_map_or (λ s. owners_in_order s.state.table (at_last m s))
    (slice_get house.shards place) []

abbrev pub leases_in : PlainHouse → ℕ → ℕ → ℕ
leases_in house place m =
    option_map_or (λ s. lease_count s.state.table (at_last m s)) (slice_get house.shards place) 0

abbrev pub covering_in : PlainHouse → ℕ → Endpoint → ℕ → Bool
covering_in house place e m = is_some
    (option_and_then (λ s. covering s.state.table (at_last m s) e) (slice_get house.shards place))

-- ---- many calls

-- what changes a house
pub data HouseCall : Type 0 where
  -- a datagram that comes at this moment
  Packet : ℕ → Datagram → HouseCall
  -- the loss, at this moment, of all leases of the external address at this place
  Loss : ℕ → ℕ → HouseCall

-- the external address of which a call makes an entry
abbrev pub call_place : PlainHouse → HouseCall → ℕ
call_place house (Packet now from) = route_of house.config from
call_place house (Loss now place) = place

abbrev pub call_entry : PlainHouse → HouseCall → Option Entry
call_entry house (Packet now from) = packet_entry house now from
call_entry house (Loss now place) = loss_entry house place now

abbrev pub call_after : PlainHouse → HouseCall → PlainHouse
call_after house call = add_entry house (call_place house call) (call_entry house call)

abbrev pub placed : ℕ → Option Entry → Option HouseEntry
placed place e = option_map (λ e. record { place = place; entry = e }) e

-- the entries that calls make, one after the other
abbrev pub entries_along : PlainHouse → List HouseCall → List HouseEntry
entries_along house [] = []
entries_along house (call ∷ calls) =
    cons_option (placed (call_place house call) (call_entry house call))
    (entries_along (call_after house call) calls)

-- a house that begins with these states of its external addresses
abbrev pub shards_begun : List External → List State → List PlainShard
shards_begun (x ∷ xs) (s ∷ ss) =
    (record { external = x; state = s; last = s.last }) ∷ shards_begun xs ss
shards_begun xs ss = []

abbrev pub house_begun : Config → List State → PlainHouse
house_begun config openings =
    record { config = config; shards = shards_begun config.externals openings }
