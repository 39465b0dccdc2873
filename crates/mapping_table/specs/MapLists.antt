-- What is asked of a list of MAP leases, in the order granted, and what it must keep to (our own; a
-- MAP lease is a mapping of RFC 6887, section 11).
use Rattle.std.specs.Prelude.{◌≡◌, ℕ, ◌+◌, ◌<◌, ◌≤◌, ◌&&◌, ◌||◌, ◌⊎◌, nat_lt, not, Bool, false, List, ◌++◌, length, filter, find, Contains, IsTrue, Option, Some, None, IfSome, IfNone, Result, OnOk, OnErr}
use Rattle.std.specs.List.{AllByRecursion, list_any}
use Rattle.pcp_base.specs.declared.leases.TheConstants.{MOST_LEASES}
use Rattle.pcp_base.specs.declared.leases.Protocol.{Protocol}
use Rattle.pcp_base.specs.declared.leases.Endpoint.{Endpoint}
use Rattle.pcp_base.specs.declared.leases.MapLease.{MapLease}
use Rattle.ordered_index.specs.Aged.{Aged}
use Rattle.pcp_base.specs.Owners.{owns}
use Rattle.pcp_base.specs.Tables.{EachTwo, IsMapLease, covers, first_endpoint, is_map_of, put, same_address, same_protocol}

-- whether the lease is live at m
abbrev pub is_live_map : ℕ → MapLease → Bool
is_live_map m l = nat_lt m l.expiry

-- the lease that covers the endpoint
abbrev pub map_covering : Endpoint → List MapLease → Option MapLease
map_covering e ls = find (λ l. covers l e) ls

-- the lease that owns the external port
abbrev pub map_owning : Protocol → ℕ → List MapLease → Option MapLease
map_owning protocol port ls = find (owns protocol port) ls

-- whether there is a lease that is live at m
abbrev pub some_live_map : ℕ → Option MapLease → Bool
some_live_map m None = false
some_live_map m (Some l) = is_live_map m l

-- the lease with this key: its first endpoint
abbrev pub map_with_key : Endpoint → List MapLease → Option MapLease
map_with_key key ls = find (is_map_of key) ls

-- the first lease that isn't live at m
abbrev pub first_dead_map : ℕ → List MapLease → Option MapLease
first_dead_map m ls = find (λ l. not (is_live_map m l)) ls

-- one of the leases that aren't live at m, None exactly where all are
pub record IsDeadMap (m : ℕ) (ls : List MapLease) (result : Option MapLease) : Type 0 where
  pub among : IfSome result (λ l. Contains ls l)
  pub dead : IfSome result (λ l. is_live_map m l ≡ false)
  pub none : IfNone result (first_dead_map m ls ≡ None)

-- whether a lease covers this port of the endpoint's address and protocol
abbrev pub is_covered : Endpoint → List MapLease → ℕ → Bool
is_covered e ls port =
    list_any (λ l. covers l (record { address = e.address; protocol = e.protocol; port = port })) ls

-- the least covered port above the endpoint's and below the end, None exactly where there is none
pub record IsNextCovered (e : Endpoint) (end : ℕ) (ls : List MapLease) (result : Option ℕ)
    : Type 0 where
  pub above : IfSome result (λ port. e.port < port)
  pub below : IfSome result (λ port. port < end)
  pub covered : IfSome result (λ port. IsTrue (is_covered e ls port))
  pub least : IfSome result (λ port. (other : ℕ) → e.port < other → other < end
      → IsTrue (is_covered e ls other) → port ≤ other)
  pub none : IfNone result ((other : ℕ) → e.port < other → other < end
      → is_covered e ls other ≡ false)

-- whether the n ports from a on and the k ports from b on have one in common
abbrev pub runs_meet : (a n b k : ℕ) → Bool
runs_meet a n b k = nat_lt a (b + k) && nat_lt b (a + n)

-- whether an endpoint is covered by both leases
abbrev pub meet_inside : MapLease → MapLease → Bool
meet_inside a b = same_address a.address b.address && same_protocol a.protocol b.protocol
    && runs_meet a.internal a.count b.internal b.count

-- whether an external port is owned by both leases
abbrev pub meet_outside : MapLease → MapLease → Bool
meet_outside a b = same_protocol a.protocol b.protocol
    && runs_meet a.external a.count b.external b.count

-- no endpoint is covered by both leases, and no external port is owned by both
pub record AreSeparate (a b : MapLease) : Type 0 where
  pub inside : meet_inside a b ≡ false
  pub outside : meet_outside a b ≡ false

-- whether the other lease has another key than this one and isn't separate from it
abbrev pub overlaps : MapLease → MapLease → Bool
overlaps l other = not (is_map_of (first_endpoint l) other)
    && (meet_inside l other || meet_outside l other)

-- the key of one of the leases that this one overlaps, None exactly where it overlaps none
pub record IsOverlapped (l : MapLease) (ls : List MapLease) (result : Option Endpoint)
    : Type 0 where
  pub among : IfSome result (λ key.
      IsTrue (list_any (λ other. is_map_of key other && overlaps l other) ls))
  pub none : IfNone result (list_any (overlaps l) ls ≡ false)

-- the MAP leases of a sound table
pub record AreSoundMaps (ls : List MapLease) : Type 0 where
  pub leases : AllByRecursion IsMapLease ls
  pub separate : EachTwo AreSeparate ls
  pub few : length ls ≤ MOST_LEASES

-- the leases with one more, in the place of the one with its key, or at the end
abbrev pub with_map : MapLease → List MapLease → List MapLease
with_map l ls = put (is_map_of (first_endpoint l)) l ls

-- the lease is put; where that fails, nothing changes
pub record PutsMap {X E : Type 0} (old : List MapLease) (l : MapLease) (result : Result X E)
    (new : List MapLease) : Type 0 where
  pub ok : OnOk result (new ≡ with_map l old)
  pub err : OnErr result (new ≡ old)

-- the lease with this key is told and taken out, and the others stay
pub record RemovesMap (old : List MapLease) (key : Endpoint) (result : Option MapLease)
    (new : List MapLease) : Type 0 where
  pub answer : result ≡ map_with_key key old
  pub removed : new ≡ filter (λ l. not (is_map_of key l)) old

-- the leases that are live at m stand behind the old ones, in the order granted; where that fails,
-- nothing changes
pub record CopiesLiveMaps {X E : Type 0} (ls : List MapLease) (m : ℕ) (old : List MapLease)
    (result : Result X E) (new : List MapLease) : Type 0 where
  pub ok : OnOk result (new ≡ old ++ filter (is_live_map m) ls)
  pub err : OnErr result (new ≡ old)

-- a lease that isn't live at m has left: it is found no more, and stays among all
pub record LeavesMap (m : ℕ) (old new : Aged MapLease) : Type 0 where
  pub lease : MapLease
  pub there : Contains old.found lease
  pub dead : is_live_map m lease ≡ false
  pub found : new.found ≡ filter (λ l. not (is_map_of (first_endpoint lease) l)) old.found
  pub past : (l : MapLease) → Contains new.past l → Contains old.past l ⊎ (l ≡ lease)
  pub among : Contains new.past lease
  pub all : new.all ≡ old.all
