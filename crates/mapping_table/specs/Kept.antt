-- How a table keeps its leases (our own; for proofs alone).
use Rattle.std.specs.Prelude.{◌≡◌, ℕ, ◌+◌, ◌<◌, ◌≤◌, ◌==◌, ◌&&◌, nat_lt, not, Bool, true, false, List, [], ◌∷◌, length, map, filter, Contains, count_by, slice_index, Option, Some, None, IsSome, IfSome, IfNone, if◌then◌else◌}
use Rattle.std.specs.Ordering.{is_gt, nat_cmp}
use Rattle.std.specs.declared.cmp.Ordering.{Ordering}
use Rattle.std.specs.List.{AllByRecursion}
use Rattle.std.specs.Map.{values_of}
use Rattle.std_collections.specs.Layout.BTreeMap.{btree_map}
use Rattle.std.specs.Option.{option_map}
use Rattle.std.specs.BTreeMap.{BTreeMap, btree_map_len, get, is_at, values}
use Rattle.pcp_base.specs.declared.leases.Filter.{Filter}
use Rattle.pcp_base.specs.declared.leases.Endpoint.{Endpoint}
use Rattle.pcp_base.specs.declared.leases.MapLease.{MapLease}
use Rattle.pcp_base.specs.declared.leases.TheConstants.{MOST_LEASES}
use Rattle.pcp_base.specs.Owners.{owns}
use Rattle.pcp_base.specs.Protocols.{protocol_number}
use Rattle.pcp_base.specs.Tables.{first_endpoint, is_map_of}
use Rattle.ordered_index.specs.declared.numbered.Numbered.{Numbered}
use Rattle.ordered_index.specs.Aged.{Aged, AreApart, either, entries_with, passing}
use Rattle.ordered_index.specs.Kept.{Keying, IsKept}
use Rattle.ordered_index.specs.MapSteps.{Inserts, Removes}
use Rattle.ordered_index.specs.Orders.{Place, port_at, place_of, port_cmp, place_cmp}
use Rattle.ordered_index.specs.PortSlots.{slot_of}
use Rattle.ordered_index.specs.Sieves.{bucket_of, no_places}
use Rattle.mapping_table.specs.MapLists.{AreSoundMaps, is_live_map, overlaps}
use mathlib.Core.Logic.{inl}

abbrev pub place_of_lease : MapLease → Place
place_of_lease l = place_of (first_endpoint l)

abbrev pub port_of_lease : MapLease → ℕ × ℕ
port_of_lease l = port_at l.protocol l.external

-- a lease is looked up by its first endpoint, and by its first external port
abbrev pub map_keying : Keying MapLease Place (ℕ × ℕ)
map_keying = record {
  key = place_of_lease;
  port = port_of_lease;
  key_cmp = place_cmp;
  port_cmp = port_cmp;
}

-- sound leases, in the order of their numbers, with their maps
pub record AreKeptMaps (it : Numbered MapLease Place (ℕ × ℕ)) : Type 0 where
  pub sound : AreSoundMaps (values it.leases)
  pub kept : IsKept map_keying it

-- whether the lease is a set of ports: of more than one
abbrev pub is_set : MapLease → Bool
is_set l = nat_lt 1 l.count

-- 1 for a set
abbrev pub sets_of : MapLease → ℕ
sets_of l = if is_set l then 1 else 0

-- the leases with their maps, and how many of them are sets
pub record AreCountedMaps (it : Numbered MapLease Place (ℕ × ℕ)) (sets : ℕ) : Type 0 where
  pub kept : AreKeptMaps it
  pub counted : sets ≡ count_by is_set (values it.leases)

-- whether the place of the lease's first endpoint falls on the bucket
abbrev pub falls_on : ℕ → MapLease → Bool
falls_on bucket l = bucket_of (place_of_lease l) == bucket

-- where the sieve has less than 255 for a bucket, that is how many leases fall on it
pub record SievesMaps (sieve : List ℕ) (ls : List MapLease) : Type 0 where
  pub whole : length sieve ≡ length no_places
  pub tells : (bucket : ℕ) → slice_index sieve bucket < 255
      → slice_index sieve bucket ≡ count_by (falls_on bucket) ls

-- the leases with their maps, how many of them are sets, and the sieve
pub record AreSievedMaps (it : Numbered MapLease Place (ℕ × ℕ)) (sets : ℕ) (sieve : List ℕ)
    : Type 0 where
  pub counted : AreCountedMaps it sets
  pub sieved : SievesMaps sieve (values it.leases)

-- the next number doesn't fall, and no free number below it gets a lease
pub record KeepsNumbers (old new : Numbered MapLease Place (ℕ × ℕ)) : Type 0 where
  pub next : old.next ≤ new.next
  pub fresh : (n : ℕ) → n < old.next → get nat_cmp old.leases n ≡ None
      → get nat_cmp new.leases n ≡ None

-- each lease that passes the test, of the endpoint's address and protocol, begins from a second
-- port on where it begins from a first one on
abbrev pub NoneBegins : (MapLease → Bool) → Endpoint → (from end : ℕ) → List MapLease → Type 0
NoneBegins test e from end ls = (l : MapLease) → Contains ls l → test l ≡ true
    → l.address ≡ e.address → l.protocol ≡ e.protocol → from ≤ l.internal → end ≤ l.internal

-- of the leases that pass the test, of the endpoint's address and protocol, the one that begins
-- first from a port on and before the end, None where none does
pub record BeginsFirst (test : MapLease → Bool) (e : Endpoint) (from end : ℕ) (ls : List MapLease)
    (result : Option MapLease) : Type 0 where
  pub among : IfSome result (λ l. Contains ls l)
  pub passes : IfSome result (λ l. test l ≡ true)
  pub address : IfSome result (λ l. l.address ≡ e.address)
  pub protocol : IfSome result (λ l. l.protocol ≡ e.protocol)
  pub inside : IfSome result (λ l. (from ≤ l.internal) × (l.internal < end))
  pub first : IfSome result (λ l. NoneBegins test e from l.internal ls)
  pub none : IfNone result (NoneBegins test e from end ls)

-- the lease with these filters
abbrev pub with_filters : List Filter → MapLease → MapLease
with_filters filters l = record l { filters = filters }

-- the lease without its filters
abbrev pub bare : MapLease → MapLease
bare l = with_filters [] l

-- the filters that are kept, none where nothing is kept
abbrev pub listed : Option (List Filter) → List Filter
listed None = []
listed (Some filters) = filters

-- the filters that are kept at a place
abbrev pub filters_at : BTreeMap Place (List Filter) → Place → List Filter
filters_at kept k = listed (get place_cmp kept k)

-- the lease with the filters that are kept at the place of its first endpoint
abbrev pub whole : (Place → List Filter) → MapLease → MapLease
whole kept l = with_filters (kept (place_of_lease l)) l

-- what is kept of these filters, nothing where they are none
abbrev pub kept_filters : List Filter → Option (List Filter)
kept_filters [] = None
kept_filters (f ∷ fs) = Some (f ∷ fs)

-- what is kept, with an entry for filters that are wanted, where there is none
abbrev pub with_room : List Filter → Option (List Filter) → Option (List Filter)
with_room [] kept = kept
with_room (f ∷ fs) None = Some []
with_room (f ∷ fs) (Some kept) = Some kept

-- at each place the same
abbrev pub HasSameFilters : (old new : BTreeMap Place (List Filter)) → Type 0
HasSameFilters old new = (q : Place) → get place_cmp new q ≡ get place_cmp old q

-- an entry at the place, where filters are wanted, and at each other one the same
abbrev pub MakesRoom : (old : BTreeMap Place (List Filter)) → Place → List Filter
    → (new : BTreeMap Place (List Filter)) → Type 0
MakesRoom old k filters new = (q : Place) → get place_cmp new q
    ≡ (if is_at (place_cmp k) q then with_room filters (get place_cmp old q)
    else get place_cmp old q)

-- filters can be written at the place without memory, if there are any to write
abbrev pub HasRoomAt : BTreeMap Place (List Filter) → Place → List Filter → Type 0
HasRoomAt kept k filters = 0 < length filters → IsSome (get place_cmp kept k)

-- these filters at the place, and at each other one the same
abbrev pub WritesFilters : (old : BTreeMap Place (List Filter)) → Place → List Filter
    → (new : BTreeMap Place (List Filter)) → Type 0
WritesFilters old k filters new = (q : Place) → get place_cmp new q
    ≡ (if is_at (place_cmp k) q then kept_filters filters else get place_cmp old q)

-- filters are kept where a lease has its first endpoint, and some at each place that has an entry
pub record AreOwnFilters (kept : BTreeMap Place (List Filter)) (ls : List MapLease) : Type 0 where
  pub owned : (k : Place) → ((l : MapLease) → Contains ls l → place_of_lease l ≡ k → ⊥)
      → get place_cmp kept k ≡ None
  pub some : (k : Place) → get place_cmp kept k ≡ kept_filters (filters_at kept k)

-- sound leases, and the filters of those that have any
pub record AreWholeMaps (ls : List MapLease) (kept : BTreeMap Place (List Filter)) : Type 0 where
  pub sound : AreSoundMaps ls
  pub filters : AreOwnFilters kept ls

-- of the ports 1 to 65535, those up to the last are those before the end
abbrev pub IsLastBefore : (end last : ℕ) → Type 0
IsLastBefore end last = (port : ℕ) → 0 < port → port ≤ 65535
    → (port < end → port ≤ last) × (port ≤ last → port < end)

-- the place of the lease's last endpoint, if that has a port below 65536
pub record IsLastPlace (l : MapLease) (k : Place) : Type 0 where
  pub address : k.0 ≡ l.address.0
  pub protocol : k.1.0 ≡ protocol_number l.protocol
  pub port : IsLastBefore (l.internal + l.count) k.1.1

-- the lease's last external port, if that is below 65536
pub record IsLastPort (l : MapLease) (p : ℕ × ℕ) : Type 0 where
  pub protocol : p.0 ≡ protocol_number l.protocol
  pub port : IsLastBefore (l.external + l.count) p.1

-- the lease with the last key up to this one, None where all keys are past it
pub record IsNearest {K : Type 0} (cmp : K → K → Ordering) (key : MapLease → K) (k : K)
    (ls : List MapLease) (result : Option MapLease) : Type 0 where
  pub among : IfSome result (λ l. Contains ls l)
  pub up_to : IfSome result (λ l. is_gt (cmp (key l) k) ≡ false)
  pub greatest : IfSome result (λ l. (x : MapLease) → Contains ls x → is_gt (cmp (key x) k) ≡ false
      → is_gt (cmp (key x) (key l)) ≡ false)
  pub none : IfNone result ((x : MapLease) → Contains ls x → is_gt (cmp (key x) k) ≡ true)

-- what was looked up is the lease in a slot, if that is the slot of one
abbrev pub IsInSlot : Numbered MapLease Place (ℕ × ℕ) → ℕ → Option MapLease → Type 0
IsInSlot it slot found = (n : ℕ) (l : MapLease) → get nat_cmp it.leases n ≡ Some l
    → Some slot ≡ slot_of (Some n) → found ≡ Some l

-- the key of what was looked up, where this lease overlaps it
abbrev pub overlapped_key : MapLease → Option MapLease → Option Endpoint
overlapped_key l None = None
overlapped_key l (Some x) = if overlaps l x then Some (first_endpoint x) else None

-- whether what was looked up has the key of this lease and owns its first external port
abbrev pub is_renewed : MapLease → Option MapLease → Bool
is_renewed l None = false
is_renewed l (Some x) = is_map_of (first_endpoint l) x && owns l.protocol l.external x

-- one of the leases, which this one overlaps where it meets one with another key at all
pub record TellsMet (meet : MapLease → MapLease → Bool) (l : MapLease) (ls : List MapLease)
    (result : Option MapLease) : Type 0 where
  pub among : IfSome result (λ x. Contains ls x)
  pub tells : (x : MapLease) → Contains ls x → is_map_of (first_endpoint l) x ≡ false
      → meet l x ≡ true → IsSome (overlapped_key l result)

-- the lease with a number, with its filters, or the one that has left
abbrev pub lease_with : (Place → List Filter) → (leases past : BTreeMap ℕ MapLease) → ℕ
    → Option MapLease
lease_with kept leases past n =
    either (option_map (whole kept) (get nat_cmp leases n)) (get nat_cmp past n)

-- the same, where it is live at m
unfoldable pub live_with : ℕ → (Place → List Filter) → (leases past : BTreeMap ℕ MapLease) → ℕ
    → Option MapLease
live_with m kept leases past n = passing (is_live_map m) (lease_with kept leases past n)

-- the numbers, each with its lease and that with its filters
abbrev pub whole_entries : (Place → List Filter) → List (ℕ × MapLease) → List (ℕ × MapLease)
whole_entries kept es = map (λ e. (e.0, whole kept e.1)) es

-- all leases with their filters, in the order of their numbers
abbrev pub all_maps : (Place → List Filter) → (leases past : BTreeMap ℕ MapLease) → List MapLease
all_maps kept leases past =
    values_of (entries_with past.entries (whole_entries kept leases.entries))

-- leases without their filters by their numbers, below the next one
pub record BareLeases : Type 0 where
  pub next : ℕ
  pub entries : List (ℕ × MapLease)

abbrev pub leases_in : BareLeases → BTreeMap ℕ MapLease
leases_in it = btree_map it.entries (inl tt)

-- what a table is seen as
abbrev pub aged_maps : BareLeases → BTreeMap Place (List Filter) → BTreeMap ℕ MapLease
    → Aged MapLease
aged_maps it kept past = record {
  found = map (whole (filters_at kept)) (values_of it.entries);
  past = values past;
  all = all_maps (filters_at kept) (leases_in it) past;
}

-- the lease with a number has left with its filters, and the filters at its place with it
pub record Leaves (it : BareLeases) (kept : BTreeMap Place (List Filter))
    (past : BTreeMap ℕ MapLease) (n : ℕ) (l : MapLease) (it' : BareLeases)
    (kept' : BTreeMap Place (List Filter)) (past' : BTreeMap ℕ MapLease) : Type 0 where
  pub next : it'.next ≡ it.next
  pub leases : Removes nat_cmp (leases_in it) (leases_in it') n
  pub removed : values_of it'.entries
      ≡ filter (λ x. not (is_map_of (first_endpoint l) x)) (values_of it.entries)
  pub filters : WritesFilters kept (place_of_lease l) [] kept'
  pub left : Inserts nat_cmp past past' n (whole (filters_at kept) l)

-- sound leases with their filters, and those that have left, of which none is live from a moment on
pub record AreAgedMaps (it : BareLeases) (kept : BTreeMap Place (List Filter))
    (past : BTreeMap ℕ MapLease) (gone : ℕ) : Type 0 where
  pub whole : AreWholeMaps (values_of it.entries) kept
  pub apart : AreApart (leases_in it) it.next past
  pub few : btree_map_len past ≤ MOST_LEASES
  pub dead : AllByRecursion (λ l. l.expiry ≤ gone) (values past)
