-- How a table keeps its leases (our own; for proofs alone).
use Rattle.std.specs.Prelude.{◌≡◌, ℕ, ◌≤◌, ◌&&◌, ◌==◌, nat_lt, Bool, true, false, bytes_eq, List, [], ◌∷◌, Contains, Option, Some, None, IsSome, IfSome, Result, OnErr, if◌then◌else◌}
use Rattle.std.specs.List.{AllByRecursion, fold}
use Rattle.std.specs.Ordering.{nat_cmp, ordering_then}
use Rattle.std.specs.declared.cmp.Ordering.{Ordering}
use Rattle.std.specs.Cmp.{IsTotalOrder, nat_cmp_total, on_total, then_total}
use Rattle.std.specs.Cmp.Lexicographic.{slice_cmp, nat_list_cmp_total}
use Rattle.std.specs.BTreeMap.{BTreeMap, btree_map_len, get, values}
use Rattle.pcp_base.specs.declared.addresses.Address.{Address}
use Rattle.pcp_base.specs.declared.leases.Protocol.{Protocol}
use Rattle.pcp_base.specs.declared.leases.Endpoint.{Endpoint}
use Rattle.pcp_base.specs.declared.leases.PeerLease.{PeerLease}
use Rattle.pcp_base.specs.declared.leases.TheConstants.{MOST_LEASES}
use Rattle.pcp_base.specs.Protocols.{protocol_number}
use Rattle.pcp_base.specs.Tables.{is_peer_of}
use Rattle.ordered_index.specs.declared.numbered.Numbered.{Numbered}
use Rattle.ordered_index.specs.Aged.{AreApart, either, passing}
use Rattle.ordered_index.specs.Kept.{Keying, IsKept}
use Rattle.ordered_index.specs.Orders.{Place, place_of, port_at}
use Rattle.peer_table.specs.PeerLists.{AreSoundPeers, is_live_peer, overlaps}

-- an address, a protocol number and a port; 1, or 0 before all remotes and 2 behind them; and a
-- remote address and port
abbrev pub PeerKey : Type 0
PeerKey = List ℕ × ℕ × ℕ × ℕ × List ℕ × ℕ

-- a protocol number and an external port; 1, or 0 before all remotes and 2 behind them; and the
-- remote that may send there
abbrev pub Opening : Type 0
Opening = ℕ × ℕ × ℕ × List ℕ × ℕ

abbrev pub key_at : Endpoint → Address → ℕ → PeerKey
key_at e remote port =
    (e.address.0, protocol_number e.protocol, e.port, 1, remote.0, port)

-- the place of the key's endpoint
abbrev pub place_in : PeerKey → Place
place_in k = (k.0, (k.1, k.2))

-- a key of the endpoint on this side of those of its leases
pub record IsBound (e : Endpoint) (side : ℕ) (k : PeerKey) : Type 0 where
  pub place : place_in k ≡ place_of e
  pub side_is : k.3 ≡ side

abbrev pub opening_at : Protocol → ℕ → Address → ℕ → Opening
opening_at protocol port remote remote_port =
    (protocol_number protocol, port, 1, remote.0, remote_port)

-- an opening of the port on this side of those of its leases
pub record IsOpeningBound (protocol : Protocol) (port side : ℕ) (o : Opening) : Type 0 where
  pub port_is : (o.0, o.1) ≡ port_at protocol port
  pub side_is : o.2 ≡ side

-- by the parts, in their order
abbrev pub key_cmp : PeerKey → PeerKey → Ordering
key_cmp a b = ordering_then (ordering_then (ordering_then (ordering_then (ordering_then
    (slice_cmp nat_cmp a.0 b.0) (nat_cmp a.1 b.1)) (nat_cmp a.2 b.2)) (nat_cmp a.3 b.3))
    (slice_cmp nat_cmp a.4 b.4)) (nat_cmp a.5 b.5)

abbrev pub opening_cmp : Opening → Opening → Ordering
opening_cmp a b = ordering_then (ordering_then (ordering_then (ordering_then
    (nat_cmp a.0 b.0) (nat_cmp a.1 b.1)) (nat_cmp a.2 b.2)) (slice_cmp nat_cmp a.3 b.3))
    (nat_cmp a.4 b.4)

-- both are total orders
pub key_total : IsTotalOrder key_cmp
key_total = then_total (then_total (then_total (then_total (then_total
    (on_total (λ (k : PeerKey). k.0) nat_list_cmp_total)
    (on_total (λ (k : PeerKey). k.1) nat_cmp_total))
    (on_total (λ (k : PeerKey). k.2) nat_cmp_total))
    (on_total (λ (k : PeerKey). k.3) nat_cmp_total))
    (on_total (λ (k : PeerKey). k.4) nat_list_cmp_total))
    (on_total (λ (k : PeerKey). k.5) nat_cmp_total)

pub opening_total : IsTotalOrder opening_cmp
opening_total = then_total (then_total (then_total (then_total
    (on_total (λ (o : Opening). o.0) nat_cmp_total)
    (on_total (λ (o : Opening). o.1) nat_cmp_total))
    (on_total (λ (o : Opening). o.2) nat_cmp_total))
    (on_total (λ (o : Opening). o.3) nat_list_cmp_total))
    (on_total (λ (o : Opening). o.4) nat_cmp_total)

abbrev pub key_of_lease : PeerLease → PeerKey
key_of_lease l = key_at l.endpoint l.remote l.remote_port

abbrev pub opening_of_lease : PeerLease → Opening
opening_of_lease l = opening_at l.endpoint.protocol l.external l.remote l.remote_port

-- a lease is looked up by its endpoint and remote, and by its external port and remote
abbrev pub peer_keying : Keying PeerLease PeerKey Opening
peer_keying = record {
  key = key_of_lease;
  port = opening_of_lease;
  key_cmp = key_cmp;
  port_cmp = opening_cmp;
}

-- sound leases, in the order of their numbers, with their maps
pub record AreKeptPeers (it : Numbered PeerLease PeerKey Opening) : Type 0 where
  pub sound : AreSoundPeers (values it.leases)
  pub kept : IsKept peer_keying it

-- whether there is a lease, and it passes the test
abbrev pub some_that : (PeerLease → Bool) → Option PeerLease → Bool
some_that test None = false
some_that test (Some l) = test l

-- the expiry of a lease, if there is one
abbrev pub expiry_in : Option PeerLease → Option ℕ
expiry_in None = None
expiry_in (Some l) = Some l.expiry

-- the later of two, of which each may be missing
abbrev pub later : Option ℕ → Option ℕ → Option ℕ
later None b = b
later (Some a) None = Some a
later (Some a) (Some b) = if nat_lt a b then Some b else Some a

-- the latest of a number and of those of the items
abbrev pub last_of : {X : Type 0} → (X → Option ℕ) → Option ℕ → List X → Option ℕ
last_of number a xs = fold (λ b x. later b (number x)) a xs

-- whether the key has this remote
abbrev pub has_remote : Address → ℕ → PeerKey → Bool
has_remote remote port k = bytes_eq k.4 remote.0 && k.5 == port

-- the number of the first entry
abbrev pub first_number : {K : Type 0} → List (K × ℕ) → Option ℕ
first_number [] = None
first_number (e ∷ es) = Some e.1

-- what was looked up, where this lease overlaps it
abbrev pub overlapped : PeerLease → Option PeerLease → Option PeerLease
overlapped l None = None
overlapped l (Some x) = if overlaps l x then Some x else None

-- one of the leases, which this one overlaps where one with another key differs from it so
pub record TellsOther (differs : PeerLease → PeerLease → Bool) (l : PeerLease)
    (ls : List PeerLease) (result : Option PeerLease) : Type 0 where
  pub among : IfSome result (λ x. Contains ls x)
  pub tells : (x : PeerLease) → Contains ls x
      → is_peer_of l.endpoint l.remote l.remote_port x ≡ false → differs l x ≡ true
      → IsSome (overlapped l result)

-- the lease with a number, or the one that has left
abbrev pub lease_with : (leases past : BTreeMap ℕ PeerLease) → ℕ → Option PeerLease
lease_with leases past n = either (get nat_cmp leases n) (get nat_cmp past n)

-- the same, where it is live at m
unfoldable pub live_with : ℕ → (leases past : BTreeMap ℕ PeerLease) → ℕ → Option PeerLease
live_with m leases past n = passing (is_live_peer m) (lease_with leases past n)

-- what was apart from the leases is so afterwards, and where that fails, the leases stay
pub record StaysApart {X E : Type 0} (old new : Numbered PeerLease PeerKey Opening)
    (result : Result X E) : Type 0 where
  pub apart : (past : BTreeMap ℕ PeerLease) → AreApart old.leases old.next past
      → AreApart new.leases new.next past
  pub err : OnErr result (new.leases.entries ≡ old.leases.entries)

-- sound leases with their maps, and those that have left, of which none is live from a moment on
pub record AreAgedPeers (it : Numbered PeerLease PeerKey Opening) (past : BTreeMap ℕ PeerLease)
    (gone : ℕ) : Type 0 where
  pub kept : AreKeptPeers it
  pub apart : AreApart it.leases it.next past
  pub few : btree_map_len past ≤ MOST_LEASES
  pub dead : AllByRecursion (λ l. l.expiry ≤ gone) (values past)
