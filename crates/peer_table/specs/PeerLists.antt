-- What is asked of a list of PEER leases, in the order granted, and what it must keep to (our own; a
-- PEER lease is a mapping of RFC 6887, section 12).
use Rattle.std.specs.Prelude.{◌≡◌, ℕ, ◌+◌, ◌<◌, ◌≤◌, ◌&&◌, ◌||◌, ◌⊎◌, ◌==◌, nat_lt, not, Bool, false, List, ◌++◌, length, filter, find, Contains, count_by, IsTrue, Option, None, IfSome, IfNone, Result, OnOk, OnErr}
use Rattle.std.specs.List.{AllByRecursion, list_any}
use Rattle.pcp_base.specs.declared.addresses.Address.{Address}
use Rattle.pcp_base.specs.declared.leases.TheConstants.{MOST_LEASES, MOST_PEERS}
use Rattle.pcp_base.specs.declared.leases.Protocol.{Protocol}
use Rattle.pcp_base.specs.declared.leases.Endpoint.{Endpoint}
use Rattle.pcp_base.specs.declared.leases.PeerLease.{PeerLease}
use Rattle.pcp_base.specs.Tables.{EachTwo, IsPeerLease, HaveOtherKeys, is_peer_of, names, put, same_address, same_endpoint, same_protocol}
use Rattle.pcp_base.specs.Owners.{is_port, peer_owner}
use Rattle.ordered_index.specs.Aged.{Aged}
use Rattle.peer_table.specs.declared.uses.PortUse.{PortUse}

-- whether the lease is live at m
abbrev pub is_live_peer : ℕ → PeerLease → Bool
is_live_peer m l = nat_lt m l.expiry

-- the lease with this key: its endpoint, remote address and remote port
abbrev pub peer_with_key : Endpoint → Address → ℕ → List PeerLease → Option PeerLease
peer_with_key e remote port ls = find (is_peer_of e remote port) ls

-- whether the lease owns the external port and has exactly this remote
abbrev pub opens : Protocol → ℕ → Address → ℕ → PeerLease → Bool
opens protocol port remote remote_port l =
    same_protocol l.endpoint.protocol protocol && l.external == port
    && same_address l.remote remote && l.remote_port == remote_port

-- the lease that owns the external port and has exactly this remote
abbrev pub peer_opening : Protocol → ℕ → Address → ℕ → List PeerLease → Option PeerLease
peer_opening protocol port remote remote_port ls = find (opens protocol port remote remote_port) ls

-- whether the lease has ended by m
abbrev pub is_ended_peer : ℕ → PeerLease → Bool
is_ended_peer m l = not (is_live_peer m l)

-- the first lease that isn't live at m
abbrev pub first_dead_peer : ℕ → List PeerLease → Option PeerLease
first_dead_peer m ls = find (λ l. not (is_live_peer m l)) ls

-- one of the leases that aren't live at m, None exactly where all are
pub record IsDeadPeer (m : ℕ) (ls : List PeerLease) (result : Option PeerLease) : Type 0 where
  pub among : IfSome result (λ l. Contains ls l)
  pub dead : IfSome result (λ l. is_live_peer m l ≡ false)
  pub none : IfNone result (first_dead_peer m ls ≡ None)

-- whether the lease names the endpoint and is live at m
abbrev pub is_live_of : Endpoint → ℕ → PeerLease → Bool
is_live_of e m l = names l e && is_live_peer m l

-- whether the lease names the endpoint and has ended by m
abbrev pub is_ended_of : Endpoint → ℕ → PeerLease → Bool
is_ended_of e m l = names l e && is_ended_peer m l

-- one of the endpoint's leases that aren't live at m, None exactly where all of the endpoint's are
pub record IsEndedOf (e : Endpoint) (m : ℕ) (ls : List PeerLease) (result : Option PeerLease)
    : Type 0 where
  pub among : IfSome result (λ l. Contains ls l)
  pub names : IfSome result (λ l. IsTrue (names l e))
  pub dead : IfSome result (λ l. is_live_peer m l ≡ false)
  pub none : IfNone result (count_by (is_ended_of e m) ls ≡ 0)

-- the external port of the endpoint's leases that are live at m, and how many they are; None exactly
-- where there is none
pub record IsPortUse (e : Endpoint) (m : ℕ) (ls : List PeerLease) (result : Option PortUse)
    : Type 0 where
  pub external : IfSome result (λ found.
      IsTrue (list_any (λ l. is_live_of e m l && l.external == found.external) ls))
  pub count : IfSome result (λ found. found.count ≡ count_by (is_live_of e m) ls)
  pub none : IfNone result (count_by (is_live_of e m) ls ≡ 0)

-- whether one of the leases owns the external port
abbrev pub is_peer_owned : Protocol → ℕ → List PeerLease → Bool
is_peer_owned protocol port ls = list_any (λ l. is_port protocol port (peer_owner l)) ls

-- the latest expiry of the leases that own the external port; None exactly where there is none
pub record IsLastExpiry (protocol : Protocol) (port : ℕ) (ls : List PeerLease) (result : Option ℕ)
    : Type 0 where
  pub there : IfSome result (λ expiry.
      IsTrue (list_any (λ l. is_port protocol port (peer_owner l) && l.expiry == expiry) ls))
  pub latest : IfSome result (λ expiry. AllByRecursion
      (λ l. IsTrue (is_port protocol port (peer_owner l)) → l.expiry ≤ expiry) ls)
  pub none : IfNone result (is_peer_owned protocol port ls ≡ false)

-- the least external port from this one on that one of the leases owns, None exactly where none does
pub record IsNextOwned (protocol : Protocol) (port : ℕ) (ls : List PeerLease) (result : Option ℕ)
    : Type 0 where
  pub from : IfSome result (λ next. port ≤ next)
  pub owned : IfSome result (λ next. IsTrue (is_peer_owned protocol next ls))
  pub least : IfSome result (λ next. (other : ℕ) →
      port ≤ other → IsTrue (is_peer_owned protocol other ls) → next ≤ other)
  pub none : IfNone result ((other : ℕ) → port ≤ other → is_peer_owned protocol other ls ≡ false)

-- whether a lease names this port of the endpoint's address and protocol
abbrev pub is_named : Endpoint → List PeerLease → ℕ → Bool
is_named e ls port =
    list_any (λ l. names l (record { address = e.address; protocol = e.protocol; port = port })) ls

-- the least named port above the endpoint's and below the end, None exactly where there is none
pub record IsNextNamed (e : Endpoint) (end : ℕ) (ls : List PeerLease) (result : Option ℕ)
    : Type 0 where
  pub above : IfSome result (λ port. e.port < port)
  pub below : IfSome result (λ port. port < end)
  pub named : IfSome result (λ port. IsTrue (is_named e ls port))
  pub least : IfSome result (λ port.
      (other : ℕ) → e.port < other → IsTrue (is_named e ls other) → port ≤ other)
  pub none : IfNone result ((other : ℕ) → e.port < other → other < end
      → is_named e ls other ≡ false)

-- the keys differ, no external port has two endpoints, and no endpoint has two external ports
pub record AreFellows (a b : PeerLease) : Type 0 where
  pub keys : HaveOtherKeys a b
  pub shares : (same_protocol a.endpoint.protocol b.endpoint.protocol && a.external == b.external)
      ≡ same_endpoint a.endpoint b.endpoint

-- whether the other lease has the endpoint of this one, and another external port
abbrev pub has_other_port : PeerLease → PeerLease → Bool
has_other_port l other = names other l.endpoint && not (other.external == l.external)

-- whether the other lease owns the external port of this one, and has another endpoint
abbrev pub has_other_endpoint : PeerLease → PeerLease → Bool
has_other_endpoint l other = is_port l.endpoint.protocol l.external (peer_owner other)
    && not (names other l.endpoint)

-- whether the other lease has another key than this one and isn't its fellow
abbrev pub overlaps : PeerLease → PeerLease → Bool
overlaps l other = not (is_peer_of l.endpoint l.remote l.remote_port other)
    && (has_other_port l other || has_other_endpoint l other)

-- one of the leases that this one overlaps, None exactly where it overlaps none
pub record IsOverlapped (l : PeerLease) (ls : List PeerLease) (result : Option PeerLease)
    : Type 0 where
  pub among : IfSome result (λ other. Contains ls other)
  pub overlapped : IfSome result (λ other. IsTrue (overlaps l other))
  pub none : IfNone result (list_any (overlaps l) ls ≡ false)

-- the PEER leases of a sound table
pub record AreSoundPeers (ls : List PeerLease) : Type 0 where
  pub leases : AllByRecursion IsPeerLease ls
  pub fellows : EachTwo AreFellows ls
  pub few : length ls ≤ MOST_LEASES
  pub few_peers : (e : Endpoint) → count_by (λ l. names l e) ls ≤ MOST_PEERS

-- the leases with one more, in the place of the one with its key, or at the end
abbrev pub with_peer : PeerLease → List PeerLease → List PeerLease
with_peer l ls = put (is_peer_of l.endpoint l.remote l.remote_port) l ls

-- the lease is put; where that fails, nothing changes
pub record PutsPeer {X E : Type 0} (old : List PeerLease) (l : PeerLease) (result : Result X E)
    (new : List PeerLease) : Type 0 where
  pub ok : OnOk result (new ≡ with_peer l old)
  pub err : OnErr result (new ≡ old)

-- the lease with this key is told and taken out, and the others stay
pub record RemovesPeer (old : List PeerLease) (e : Endpoint) (remote : Address) (port : ℕ)
    (result : Option PeerLease) (new : List PeerLease) : Type 0 where
  pub answer : result ≡ peer_with_key e remote port old
  pub removed : new ≡ filter (λ l. not (is_peer_of e remote port l)) old

-- the leases that are live at m stand behind the old ones, in the order granted; where that fails,
-- nothing changes
pub record CopiesLivePeers {X E : Type 0} (ls : List PeerLease) (m : ℕ) (old : List PeerLease)
    (result : Result X E) (new : List PeerLease) : Type 0 where
  pub ok : OnOk result (new ≡ old ++ filter (is_live_peer m) ls)
  pub err : OnErr result (new ≡ old)

-- a lease that isn't live at m has left: it is found no more, and stays among all
pub record LeavesPeer (m : ℕ) (old new : Aged PeerLease) : Type 0 where
  pub lease : PeerLease
  pub there : Contains old.found lease
  pub dead : is_live_peer m lease ≡ false
  pub found : new.found
      ≡ filter (λ l. not (is_peer_of lease.endpoint lease.remote lease.remote_port l)) old.found
  pub past : (l : PeerLease) → Contains new.past l → Contains old.past l ⊎ (l ≡ lease)
  pub among : Contains new.past lease
  pub all : new.all ≡ old.all
