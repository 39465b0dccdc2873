-- What the requests of a load do to a house (our own).
use Rattle.std.specs.Prelude.{ℕ, sum, map, length, unwrap_or, [], Option, Some, None, slice_get}
use Rattle.pcp_base.specs.declared.asks.Ask.{Ask}
use Rattle.pcp_base.specs.declared.asks.Ask.TheVariants as Asks
use Rattle.pcp_base.specs.declared.datagrams.Datagram.{Datagram}
use Rattle.pcp_base.specs.declared.datagrams.Entry.{Entry}
use Rattle.load_summary.specs.declared.counts.LoadKind.{LoadKind}
use Rattle.load_summary.specs.declared.counts.LoadKind.TheVariants.{Refused}
use Rattle.load_summary.specs.Kinds.{kind_of}
use Rattle.load_player.specs.LoadRuns.{LoadEffects}
use Rattle.lease_store.specs.Lookups.{lease_count}
use Rattle.lease_store.specs.OwnerOrder.{owners_in_order}
use Rattle.lease_histories.specs.Entries.{Request, request_of}
use Rattle.lease_histories.specs.PlainHouses.{PlainHouse, PlainShard, at_last, packet_after, packet_entry, packet_reply}
use Rattle.lease_histories.specs.Routes.{route_of}

-- How a request counts, by the table before its entry. What isn't a MAP request counts as refused;
-- a load has none.
abbrev pub kind_asked : PlainShard → Entry → Ask → LoadKind
kind_asked shard e (Asks.Map ask) = unwrap_or (kind_of shard.state.table e) Refused
kind_asked shard e (Asks.Known refusal) = Refused
kind_asked shard e Asks.Announce = Refused
kind_asked shard e (Asks.Peer ask) = Refused

abbrev pub entry_kind_by : Option PlainShard → Option Entry → Option Request → LoadKind
entry_kind_by (Some shard) (Some e) (Some request) = kind_asked shard e request.ask
entry_kind_by None e request = Refused
entry_kind_by (Some shard) None request = Refused
entry_kind_by (Some shard) (Some e) None = Refused

abbrev pub request_kind : PlainHouse → Datagram → ℕ → LoadKind
request_kind house from now = entry_kind_by (slice_get house.shards (route_of house.config from))
    (packet_entry house now from) (request_of house.config from)

-- over all external addresses, each at a moment raised to that of its last record
abbrev pub all_leases : PlainHouse → ℕ → ℕ
all_leases house m = sum (map (λ s. lease_count s.state.table (at_last m s)) house.shards)

abbrev pub all_owned : PlainHouse → ℕ → ℕ
all_owned house m =
    sum (map (λ s. length (owners_in_order s.state.table (at_last m s))) house.shards)

abbrev pub load_effects : LoadEffects PlainHouse
load_effects = record {
  after = λ house from now. packet_after house now from;
  reply = λ house from now. unwrap_or (packet_reply house now from) [];
  kind = request_kind;
  leases = all_leases;
  owned = all_owned;
}
