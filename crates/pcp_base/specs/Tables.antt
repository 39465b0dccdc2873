-- The lease table (our own; a MAP lease is a mapping of RFC 6887, section 11, a PEER lease one of section 12).
use Rattle.std.specs.Prelude.{◌≡◌, ◌≢◌, ℕ, ◌+◌, ◌<◌, ◌≤◌, ◌&&◌, ◌==◌, nat_le, nat_lt, not, Bool, true, false, bytes_eq, List, [], ◌∷◌, length, filter, IsTrue, ⊤, if◌then◌else◌}
use Rattle.std.specs.List.{AllByRecursion}
use Rattle.pcp_base.specs.declared.addresses.Address.{Address}
use Rattle.pcp_base.specs.declared.leases.TheConstants.{MOST_PORTS, MOST_FILTERS}
use Rattle.pcp_base.specs.declared.leases.Protocol.{Protocol}
use Rattle.pcp_base.specs.declared.leases.Protocol.TheVariants.{Tcp, Udp}
use Rattle.pcp_base.specs.declared.leases.Endpoint.{Endpoint}
use Rattle.pcp_base.specs.declared.leases.Filter.{Filter}
use Rattle.pcp_base.specs.declared.leases.MapLease.{MapLease}
use Rattle.pcp_base.specs.declared.leases.PeerLease.{PeerLease}

-- two lists of leases, each in the order granted
pub record Table : Type 0 where
  pub maps : List MapLease
  pub peers : List PeerLease

abbrev pub empty_table : Table
empty_table = record { maps = []; peers = [] }

-- the leases that are live at m: those with a later expiry
abbrev pub live : Table → ℕ → Table
live t m = record {
  maps = filter (λ l. nat_lt m l.expiry) t.maps;
  peers = filter (λ l. nat_lt m l.expiry) t.peers;
}

-- the others
abbrev pub dead : Table → ℕ → Table
dead t m = record {
  maps = filter (λ l. not (nat_lt m l.expiry)) t.maps;
  peers = filter (λ l. not (nat_lt m l.expiry)) t.peers;
}

-- whether the two are equal
abbrev pub same_address : Address → Address → Bool
same_address a b = bytes_eq a.0 b.0

abbrev pub same_protocol : Protocol → Protocol → Bool
same_protocol Tcp Tcp = true
same_protocol Udp Udp = true
same_protocol Tcp Udp = false
same_protocol Udp Tcp = false

abbrev pub same_endpoint : Endpoint → Endpoint → Bool
same_endpoint a b =
    same_address a.address b.address && same_protocol a.protocol b.protocol && a.port == b.port

-- whether the MAP lease covers the endpoint
abbrev pub covers : MapLease → Endpoint → Bool
covers l e = same_address l.address e.address && same_protocol l.protocol e.protocol
    && nat_le l.internal e.port && nat_lt e.port (l.internal + l.count)

-- the first endpoint that a MAP lease covers, which is its key
abbrev pub first_endpoint : MapLease → Endpoint
first_endpoint l = record { address = l.address; protocol = l.protocol; port = l.internal }

-- whether the MAP lease has this key: its first endpoint
abbrev pub is_map_of : Endpoint → MapLease → Bool
is_map_of e l = same_endpoint (first_endpoint l) e

-- whether the PEER lease names the endpoint
abbrev pub names : PeerLease → Endpoint → Bool
names l e = same_endpoint l.endpoint e

-- a lease in the place of the one with its key, or at the end
abbrev pub put : {X : Type 0} → (X → Bool) → X → List X → List X
put has_key l [] = l ∷ []
put has_key l (x ∷ xs) = if has_key x then l ∷ xs else x ∷ put has_key l xs

-- whether the PEER lease has this key: its endpoint, remote address and remote port
abbrev pub is_peer_of : Endpoint → Address → ℕ → PeerLease → Bool
is_peer_of e remote port l =
    same_endpoint l.endpoint e && same_address l.remote remote && l.remote_port == port

-- R holds of each item and each later one: std's `AllPairs`, in the form by which lists are taken apart
abbrev pub EachTwo : {X : Type 0} → (X → X → Type 0) → List X → Type 0
EachTwo R [] = ⊤
EachTwo R (x ∷ xs) = AllByRecursion (R x) xs × EachTwo R xs

-- internal ports, at least one, and as many external ones, of 1 to 65535
pub record HasPorts (l : MapLease) : Type 0 where
  pub internal : 0 < l.internal
  pub external : 0 < l.external
  pub some : 0 < l.count
  pub few : l.count ≤ MOST_PORTS
  pub internal_end : l.internal + l.count ≤ 65536
  pub external_end : l.external + l.count ≤ 65536

abbrev pub HavePrefixes : List Filter → Type 0
HavePrefixes filters = AllByRecursion (λ f. (0 < f.prefix) × (f.prefix ≤ 128)) filters

-- few filters, different from each other, with prefixes 1 to 128
pub record AreLeaseFilters (filters : List Filter) : Type 0 where
  pub few : length filters ≤ MOST_FILTERS
  pub different : EachTwo (λ f g. f ≢ g) filters
  pub prefixes : HavePrefixes filters

-- a MAP lease that a table may have
pub record IsMapLease (l : MapLease) : Type 0 where
  pub ports : HasPorts l
  pub filters : AreLeaseFilters l.filters

-- a PEER lease that a table may have
pub record IsPeerLease (l : PeerLease) : Type 0 where
  pub internal : 0 < l.endpoint.port
  pub external : 0 < l.external
  pub external_end : l.external ≤ 65535
  pub remote : 0 < l.remote_port

-- no endpoint is covered by both
abbrev pub AreApart : MapLease → MapLease → Type 0
AreApart a b = (e : Endpoint) → IsTrue (covers a e) → ¬ (IsTrue (covers b e))

-- the keys differ
abbrev pub HaveOtherKeys : PeerLease → PeerLease → Type 0
HaveOtherKeys a b = is_peer_of b.endpoint b.remote b.remote_port a ≡ false
