-- What a value of a type is among all that a clause could name: each number and each string of octets has its width.
use Rattle.std.specs.Prelude.{◌≡◌, ◌<◌, ◌≤◌, ◌^◌, length, ⊤}
use Rattle.std.specs.List.{AllByRecursion}
use Rattle.pcp_base.specs.declared.leases.TheConstants.{MOST_FILTERS}
use Rattle.pcp_base.specs.declared.leases.Endpoint.{Endpoint}
use Rattle.pcp_base.specs.declared.leases.Filter.{Filter}
use Rattle.pcp_base.specs.declared.leases.MapLease.{MapLease}
use Rattle.pcp_base.specs.declared.leases.PeerLease.{PeerLease}
use Rattle.pcp_base.specs.declared.records.Change.{Change}
use Rattle.pcp_base.specs.declared.records.Change.TheVariants.{Start, Map, Peer, DropMap, DropPeer, Lose, Mark, Rest, Renumber}
use Rattle.pcp_base.specs.declared.records.Record.{Record}
use Rattle.pcp_base.specs.Tables.{first_endpoint}
use Rattle.lease_records.specs.declared.terms.Term.{Term}

pub record IsEndpoint (e : Endpoint) : Type 0 where
  pub address : length e.address.0 ≡ 16
  pub port : e.port < 2 ^ 16

pub record IsFilter (f : Filter) : Type 0 where
  pub port : f.port < 2 ^ 16
  pub remote : length f.remote.0 ≡ 16

pub record IsTerm (t : Term) : Type 0 where
  pub nonce : length t.nonce.0 ≡ 12
  pub granted : t.granted < 2 ^ 40
  pub expiry : t.expiry < 2 ^ 64

-- what MAP and PEER leases share
abbrev pub map_term : MapLease → Term
map_term l = record { nonce = l.nonce; granted = l.granted; expiry = l.expiry }

abbrev pub peer_term : PeerLease → Term
peer_term l = record { nonce = l.nonce; granted = l.granted; expiry = l.expiry }

pub record IsMap (l : MapLease) : Type 0 where
  pub endpoint : IsEndpoint (first_endpoint l)
  pub count : l.count < 2 ^ 16
  pub external : l.external < 2 ^ 16
  pub term : IsTerm (map_term l)
  pub few_filters : length l.filters ≤ MOST_FILTERS
  pub filters : AllByRecursion IsFilter l.filters

pub record IsPeer (l : PeerLease) : Type 0 where
  pub endpoint : IsEndpoint l.endpoint
  pub external : l.external < 2 ^ 16
  pub remote : length l.remote.0 ≡ 16
  pub remote_port : l.remote_port < 2 ^ 16
  pub term : IsTerm (peer_term l)

abbrev pub IsChangeValue : Change → Type 0
IsChangeValue (Map l) = IsMap l
IsChangeValue (Peer l) = IsPeer l
IsChangeValue (DropMap e) = IsEndpoint e
IsChangeValue (DropPeer e remote port) = IsEndpoint e × (length remote.0 ≡ 16) × (port < 2 ^ 16)
IsChangeValue Start = ⊤
IsChangeValue Lose = ⊤
IsChangeValue Mark = ⊤
IsChangeValue (Rest e external end) = IsEndpoint e × (external < 2 ^ 16) × (end < 2 ^ 64)
IsChangeValue (Renumber a) = length a.0 ≡ 16

pub record IsValue (r : Record) : Type 0 where
  pub moment : r.moment < 2 ^ 40
  pub change : IsChangeValue r.change
