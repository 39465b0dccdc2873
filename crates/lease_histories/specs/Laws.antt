-- The laws of legal histories (our own).
use Rattle.std.specs.Prelude.{◌≡◌, ℕ, ◌+◌, ◌<◌, ◌≤◌, ◌^◌, ◌⊎◌, nat_le, true, false, List, [], ◌∷◌, ◌++◌, length, map, filter, Contains, Some, IfSome}
use Rattle.std.specs.List.{AllByRecursion}
use Rattle.pcp_base.specs.declared.addresses.Nonce.{Nonce}
use Rattle.pcp_base.specs.declared.leases.TheConstants.{REST_SECONDS}
use Rattle.pcp_base.specs.declared.leases.End.{End}
use Rattle.pcp_base.specs.declared.leases.MapLease.{MapLease}
use Rattle.pcp_base.specs.declared.leases.PeerLease.{PeerLease}
use Rattle.pcp_base.specs.declared.leases.Owner.{Owner}
use Rattle.pcp_base.specs.declared.configs.Config.{Config}
use Rattle.pcp_base.specs.declared.datagrams.Datagram.{Datagram}
use Rattle.pcp_base.specs.declared.datagrams.Entry.{Entry}
use Rattle.pcp_base.specs.declared.records.Record.{Record}
use Rattle.pcp_base.specs.Configs.{IsConfig}
use Rattle.pcp_base.specs.Tables.{Table, live}
use Rattle.pcp_base.specs.Owners.{owners, OneOwner}
use Rattle.pcp_base.specs.Epoch.{epoch_of}
use Rattle.pcp_base.specs.States.{State, empty_state}
use Rattle.pcp_base.specs.Apply.{apply, rebases, state_of}
use Rattle.pcp_base.specs.Fits.{AllFit}
use Rattle.pcp_base.specs.Reached.{IsReached}
use Rattle.pcp_options.specs.Responses.{AreOctets}
use Rattle.lease_core.specs.Laws.{HasNonce}
use Rattle.lease_histories.specs.Routes.{route_of}
use Rattle.lease_histories.specs.Entries.{Served, Request, OfServer, OfFault, entry_kind, begins_anew, request_of, request_entry}
use Rattle.lease_histories.specs.Legal.{IsNextEntry, IsLegal, IsOpening, IsOfServer, state_after, moment_after, base_after}
use Rattle.lease_histories.specs.HouseHistories.{IsSoloHistory}
use Rattle.lease_histories.specs.PlainHouses.{HouseCall, Packet, Loss, entries_along, house_begun}

-- ---- how histories grow

abbrev pub NothingIsLegal : Type 0
NothingIsLegal = (x : Served) (opening : State) → IsLegal x opening []

-- the first entries of a legal history are one
abbrev pub PrefixesAreLegal : Type 0
PrefixesAreLegal = (x : Served) (opening : State) (entries more : List Entry) →
    IsLegal x opening (entries ++ more) → IsLegal x opening entries

abbrev pub NextIsLegal : Type 0
NextIsLegal = (x : Served) (opening : State) (entries : List Entry) (e : Entry) →
    IsLegal x opening entries → IsNextEntry x opening entries e →
    IsLegal x opening (entries ++ e ∷ [])

-- the moment and the base of the last entry are the greatest, also of those of the state
pub record AreGreatest (opening : State) (entries : List Entry) : Type 0 where
  pub moments : AllByRecursion (λ e. e.moment ≤ moment_after opening entries) entries
  pub last : (state_after opening entries).last ≤ moment_after opening entries
  pub bases : AllByRecursion (λ e. e.base ≤ base_after opening entries) entries
  pub base : (state_after opening entries).base ≤ base_after opening entries

abbrev pub LastIsGreatest : Type 0
LastIsGreatest = (x : Served) (opening : State) (entries : List Entry) →
    IsLegal x opening entries → AreGreatest opening entries

-- no moment and no base before has been greater
pub record IsNoLess (opening : State) (entries : List Entry) (m base : ℕ) : Type 0 where
  pub in_range : m < 2 ^ 40
  pub later : moment_after opening entries ≤ m
  pub told : base_after opening entries ≤ base

-- a request that comes to the external address, in octets
pub record Comes (x : Served) (from : Datagram) (request : Request) : Type 0 where
  pub octets : AreOctets from.octets
  pub routed : route_of x.config from ≡ x.place
  pub asks : request_of x.config from ≡ Some request

-- what the table decides on a request may come next
abbrev pub DecisionsComeNext : Type 0
DecisionsComeNext = (x : Served) (opening : State) (entries : List Entry) (m base : ℕ)
    (from : Datagram) (request : Request) →
    IsLegal x opening entries → IsNoLess opening entries m base → Comes x from request →
    IsNextEntry x opening entries
    (request_entry x (state_after opening entries) m base from request)

-- so may a table that begins anew, if the base told is no less than its moment, and a fault
abbrev pub ServersComeNext : Type 0
ServersComeNext = (x : Served) (opening : State) (entries : List Entry) (e : Entry) (r : Record) →
    IsLegal x opening entries → IsNoLess opening entries e.moment e.base →
    entry_kind e ≡ OfServer r → r.moment ≡ e.moment → IsOfServer entries r.change →
    e.moment ≤ e.base → IsNextEntry x opening entries e

abbrev pub FaultsComeNext : Type 0
FaultsComeNext = (x : Served) (opening : State) (entries : List Entry) (e : Entry) →
    IsOpening x opening → IsLegal x opening entries → entry_kind e ≡ OfFault →
    e.moment ≡ moment_after opening entries → e.base ≡ base_after opening entries →
    IsNextEntry x opening entries e

-- ---- owners

-- fitting records made the state, the first a Start
pub record Stands (s : State) : Type 0 where
  pub reached : IsReached s
  pub started : s.started ≡ true

-- so they made the state after each entry
abbrev pub StatesStand : Type 0
StatesStand = (x : Served) (opening : State) (before more : List Entry) →
    IsOpening x opening → IsLegal x opening (before ++ more) → Stands (state_after opening before)

-- at each moment no external port has two owners
abbrev pub HasOneOwner : State → Type 0
HasOneOwner s = (m : ℕ) → OneOwner (owners (live s.table m))

-- so it is after each entry
abbrev pub PortsKeepOneOwner : Type 0
PortsKeepOneOwner = (x : Served) (opening : State) (before more : List Entry) →
    IsOpening x opening → IsLegal x opening (before ++ more) →
    HasOneOwner (state_after opening before)

-- ---- nonces

-- the entry is a request with this nonce
pub record IsRequestWith (config : Config) (e : Entry) (nonce : Nonce) : Type 0 where
  pub request : Request
  pub asks : request_of config e.from ≡ Some request
  pub nonce_of : HasNonce request.ask nonce

-- what may change a live lease: a request with its nonce, or a table that begins anew
abbrev pub MayChange : Config → Entry → Nonce → Type 0
MayChange config e nonce = IsRequestWith config e nonce ⊎ (begins_anew (entry_kind e) ≡ true)

-- each lease that is live before the entry stays as it is, unless the entry may change it
pub record ChangesByNonce (config : Config) (e : Entry) (old new : Table) : Type 0 where
  pub maps : (l : MapLease) → Contains (live old e.moment).maps l →
      Contains new.maps l ⊎ MayChange config e l.nonce
  pub peers : (l : PeerLease) → Contains (live old e.moment).peers l →
      Contains new.peers l ⊎ MayChange config e l.nonce

abbrev pub NoncesDecide : Type 0
NoncesDecide =
    (x : Served) (opening : State) (before : List Entry) (e : Entry) (more : List Entry) →
    IsOpening x opening → IsLegal x opening (before ++ e ∷ more) →
    ChangesByNonce x.config e (state_after opening before).table
    (state_after opening (before ++ e ∷ [])).table

-- ---- rests

-- the leases that expire no earlier than m
abbrev pub lasting_to : Table → ℕ → Table
lasting_to t m = record {
  maps = filter (λ l. nat_le m l.expiry) t.maps;
  peers = filter (λ l. nat_le m l.expiry) t.peers;
}

-- a lease of the owner's port left the table, and ended no earlier than t
pub record HasEndSince (s : State) (t : ℕ) (o : Owner) : Type 0 where
  pub end : End
  pub there : Contains s.ends end
  pub endpoint : end.endpoint ≡ o.endpoint
  pub external : end.external ≡ o.external
  pub own : o.endpoint.protocol ≡ o.protocol
  pub late : t ≤ end.end

-- After the entries before, the owner has its port up to t: by a lease that expires no earlier, and
-- that none of the entries behind takes away earlier, or by one that has left the table and ended no
-- earlier. None of the entries behind begins the table anew.
pub record OwnsUpTo (opening : State) (before behind : List Entry) (t : ℕ) (o : Owner)
    : Type 0 where
  pub owned : Contains (owners (lasting_to (state_after opening before).table t)) o
      ⊎ HasEndSince (state_after opening before) t o
  pub undisturbed : AllByRecursion (λ e. t ≤ e.moment) behind
  pub same_table : AllByRecursion (λ e. begins_anew (entry_kind e) ≡ false) behind

-- no other endpoint has the owner's port
abbrev pub HasNoOther : List Owner → Owner → Type 0
HasNoOther os o = (p : Owner) → Contains os p → p.protocol ≡ o.protocol →
    p.external ≡ o.external → p.endpoint ≡ o.endpoint

-- until 120 seconds later the port is no other endpoint's
abbrev pub PortsRest : Type 0
PortsRest =
    (x : Served) (opening : State) (before behind : List Entry) (t : ℕ) (o : Owner) (n : ℕ) →
    IsOpening x opening → IsLegal x opening (before ++ behind) →
    OwnsUpTo opening before behind t o →
    (state_after opening (before ++ behind)).last ≤ n → n < t + REST_SECONDS →
    HasNoOther (owners (live (state_after opening (before ++ behind)).table n)) o

-- and the state, from which a later history may begin, still has the owner's port up to t, or those
-- 120 seconds have passed
abbrev pub PortsStay : Type 0
PortsStay = (x : Served) (opening : State) (before behind : List Entry) (t : ℕ) (o : Owner) →
    IsOpening x opening → IsLegal x opening (before ++ behind) →
    OwnsUpTo opening before behind t o →
    OwnsUpTo (state_after opening (before ++ behind)) [] [] t o
    ⊎ (t + REST_SECONDS ≤ (state_after opening (before ++ behind)).last)

-- ---- disclosure

-- a lease of the table was granted then
abbrev pub WasGranted : Table → ℕ → Type 0
WasGranted t g = Contains (map (λ l. l.granted) t.maps ++ map (λ l. l.granted) t.peers) g

-- The record gives up early a lease that was granted at g: it is live, and the record begins the
-- table anew or finds another external address.
pub record GivesUp (s : State) (r : Record) (g : ℕ) : Type 0 where
  pub live_lease : WasGranted (live s.table r.moment) g
  pub how : rebases r.change s.address ≡ true

-- the epoch that the entry tells is at most the age of a lease that was granted at g
abbrev pub IsWithinAge : ℕ → Entry → Type 0
IsWithinAge g e = g + epoch_of e.moment e.base ≤ e.moment

-- so it is from each entry on after which the base is g or later
abbrev pub BasesDisclose : Type 0
BasesDisclose = (x : Served) (opening : State) (before : List Entry) (e : Entry) (more : List Entry)
    (g : ℕ) → IsOpening x opening → IsLegal x opening (before ++ e ∷ more) →
    g ≤ (state_after opening (before ++ e ∷ [])).base → AllByRecursion (IsWithinAge g) (e ∷ more)

-- A record that comes after the others never lowers the base. Where it gives up a lease that was
-- granted at g, the base is g or later then.
abbrev pub BasesRise : Type 0
BasesRise = (s : State) (r : Record) → IsReached s → s.last ≤ r.moment →
    (s.base ≤ (apply s r).base) × ((g : ℕ) → GivesUp s r g → g ≤ (apply s r).base)

-- so the epoch is within the age from the entry on that gives the lease up
abbrev pub EpochsDisclose : Type 0
EpochsDisclose =
    (x : Served) (opening : State) (before : List Entry) (e : Entry) (more : List Entry) →
    IsOpening x opening → IsLegal x opening (before ++ e ∷ more) →
    IfSome e.kept (λ r. (g : ℕ) → GivesUp (state_after opening before) r g →
    AllByRecursion (IsWithinAge g) (e ∷ more))

-- and in each entry, where a record of the opening state gave it up
abbrev pub OpeningsDisclose : Type 0
OpeningsDisclose = (x : Served) (before : List Record) (r : Record) (more : List Record)
    (entries : List Entry) (g : ℕ) →
    AllFit empty_state (before ++ r ∷ more) → IsOpening x (state_of (before ++ r ∷ more)) →
    IsLegal x (state_of (before ++ r ∷ more)) entries → GivesUp (state_of before) r g →
    AllByRecursion (IsWithinAge g) entries

-- or where it was granted by the base of the opening state, as was every lease that a start on a
-- blank or damaged journal forgot, if no moment that was handed in before was later than it
abbrev pub StartsDisclose : Type 0
StartsDisclose = (x : Served) (opening : State) (entries : List Entry) (g : ℕ) →
    IsOpening x opening → IsLegal x opening entries → g ≤ opening.base →
    AllByRecursion (IsWithinAge g) entries

-- ---- the calls of a house on one thread

-- moments, octets and places are such
abbrev pub IsCallValue : Config → HouseCall → Type 0
IsCallValue config (Packet now from) = (now < 2 ^ 40) × AreOctets from.octets
IsCallValue config (Loss now place) = (now < 2 ^ 40) × (place < length config.externals)

-- one opening state for each external address, each made by fitting records, the first a Start
pub record AreOpenings (config : Config) (openings : List State) : Type 0 where
  pub config_is : IsConfig config
  pub count : length openings ≡ length config.externals
  pub reached : AllByRecursion IsReached openings
  pub started : AllByRecursion (λ s. s.started ≡ true) openings

-- their entries are a history of the house
abbrev pub CallsMakeHistories : Type 0
CallsMakeHistories = (config : Config) (openings : List State) (calls : List HouseCall) →
    AreOpenings config openings → AllByRecursion (IsCallValue config) calls →
    IsSoloHistory config openings (entries_along (house_begun config openings) calls)
