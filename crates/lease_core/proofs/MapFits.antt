-- That what is kept of a MAP request suits the state.
use Rattle.std.proofs.Common.{◌≡◌, ◌∙◌, ℕ, ◌+◌, ◌-◌, ◌<◌, ◌≤◌, ◌^◌, Bool, true, false, List, [], Option, Some, None, find, refl, ap, sym, subst, arith, inl, inr}
use Rattle.std.specs.Prelude.{◌&&◌, not, nat_lt, nat_le, is_none, length, IfSome, IfNone}
use Rattle.std.proofs.lemmas.Bool.{leb-false, cases_lt}
use Rattle.pcp_base.specs.declared.leases.TheConstants.{MOST_LEASES}
use Rattle.pcp_base.specs.declared.leases.Protocol.{Protocol}
use Rattle.pcp_base.specs.declared.leases.Endpoint.{Endpoint}
use Rattle.pcp_base.specs.declared.leases.MapLease.{MapLease}
use Rattle.pcp_base.specs.declared.leases.Owner.{Owner}
use Rattle.pcp_base.specs.declared.asks.MapAsk.{MapAsk}
use Rattle.pcp_base.specs.declared.records.Change.TheVariants.{Map, DropMap}
use Rattle.pcp_base.specs.Asks.{IsMapAsk}
use Rattle.pcp_base.specs.Tables.{live, covers, first_endpoint, is_map_of, AreApart, HasPorts, IsMapLease, IsPeerLease}
use Rattle.pcp_base.specs.Owners.{owners, owned, map_owner, map_owners, is_owned}
use Rattle.pcp_base.specs.Ends.{rests_for}
use Rattle.pcp_base.specs.States.{State}
use Rattle.pcp_base.specs.Records.{IsTermAt}
use Rattle.pcp_base.specs.Reached.{IsReached}
use Rattle.pcp_base.specs.Fits.{RestForNoOther}
use Rattle.pcp_base.specs.Rooms.{Agree, HasRoomForMap, Suits}
use Rattle.pcp_base.proofs.Members.{All-IsIn, All-from_IsIn, IsIn, IsIn-from_Contains, IsIn-filter, find-IsIn, find-none, find-some}
use Rattle.pcp_base.proofs.TableLemmas.{map_owners-IsIn, other_key, same_key, key-own, key-same, Sound-live}
use Rattle.pcp_base.proofs.RoomLaws.{none_given}
use Rattle.pcp_base.proofs.EndLemmas.{some-owned}
use Rattle.external_pool.specs.declared.asks.Picked.{Picked}
use Rattle.lease_store.specs.declared.terms.Terms.{Terms}
use Rattle.lease_store.specs.LeaseTerms.{AreTerms}
use Rattle.lease_store.specs.Lookups.{covering, named_port, with_port}
use Rattle.lease_store.specs.Picks.{pick}
use Rattle.lease_core.specs.Answers.{granted_lifetime}
use Rattle.lease_core.specs.DecideMap.{choice_by, has_excess, new_lease, parity_asked, renewed, room_for, room_inside}
use Rattle.lease_core.proofs.Deeds.{IsGranted, IsRenewed}
use Rattle.lease_core.proofs.FilterLaws.{folded-filters}
use Rattle.lease_core.proofs.Fresh.{agree-owned, endpoint-at, endpoint-same, naming, named-owner, no_owner, owner_at, rested-owned, unused-from_none}
use Rattle.lease_core.proofs.Inside.{IsUnusedInside, unused_inside}
use Rattle.lease_core.proofs.MapSteps.{choice-few}
use Rattle.lease_core.proofs.OpenPorts.{IsOpenPort, picked-open, picked-some}
use Rattle.lease_core.proofs.PickLemmas.{pick-within}
use Rattle.lease_core.proofs.RoomLemmas.{room-few, room-some}

-- when a decision may be made on a MAP request
pub record MayDecideMap (terms : Terms) (s : State) (m : ℕ) (ask : MapAsk) : Type 0 where
  pub allowed : AreTerms terms
  pub reached : IsReached s
  pub started : s.started ≡ true
  pub later : s.last ≤ m
  pub moment : m < 2 ^ 40
  pub formed : IsMapAsk ask

pub lifetime-fits : (terms : Terms) (asked : ℕ) → AreTerms terms →
    (1 ≤ granted_lifetime terms asked) × (granted_lifetime terms asked ≤ 86400)
lifetime-fits terms asked h =
    let low = h.lifetime_min in let ordered = h.lifetimes in let high = h.lifetime_max in (omega arith, omega arith)

pub new-term : (terms : Terms) (m asked : ℕ) → AreTerms terms → m < 2 ^ 40 → IsTermAt m m (m + granted_lifetime terms asked)
new-term terms m asked h below =
    let fits = lifetime-fits terms asked h in
    let low = fits.0 in let high = fits.1 in record { come = omega arith; live = omega arith; near = omega arith }

pub renewed-term : (terms : Terms) (last m asked granted expiry : ℕ) → AreTerms terms → m < 2 ^ 40 → last ≤ m →
    IsTermAt last granted expiry → IsTermAt m granted (m + granted_lifetime terms asked)
renewed-term terms last m asked granted expiry h below later term =
    let fits = lifetime-fits terms asked h in
    let low = fits.0 in let high = fits.1 in let come = term.come in
    record { come = omega arith; live = omega arith; near = omega arith }

pub no_start : (s : State) → s.started ≡ true → false ≡ not s.started
no_start s h = ap not (sym h)

pub if_some : {X : Type 0} (o : Option X) (P : X → Type 0) → ((x : X) → o ≡ Some x → P x) → IfSome o P
if_some None P f = tt
if_some (Some x) P f = f x refl

pub not_none : {X : Type 0} (p : X → Bool) (xs : List X) (x : X) (P : Type 0) → IsIn x xs → p x ≡ true → IfNone (find p xs) P
not_none p xs x P h here = none_given (find p xs) P (λ none.
    let not_here : p x ≡ false = All-IsIn (λ y. p y ≡ false) xs x (find-none p xs none) h in absurd cc)

-- a live MAP lease
pub record IsLiveMap (s : State) (m : ℕ) (e : Endpoint) (lease : MapLease) : Type 0 where
  pub live : IsIn lease (live s.table m).maps
  pub there : IsIn lease s.table.maps
  pub covers : covers lease e ≡ true
  pub formed : IsMapLease lease
  pub term : IsTermAt s.last lease.granted lease.expiry

pub live-map : (s : State) (m : ℕ) (e : Endpoint) (lease : MapLease) → IsReached s → covering s.table m e ≡ Some lease →
    IsLiveMap s m e lease
live-map s m e lease reached h =
    let found = find-some (λ l. covers l e) (live s.table m).maps lease h in
    let there = (IsIn-filter (λ l. nat_lt m l.expiry) s.table.maps lease found.0).0 in record {
      live = found.0;
      there = there;
      covers = found.1;
      formed = All-IsIn IsMapLease s.table.maps lease reached.sound.table.maps there;
      term = All-IsIn (λ l. IsTermAt s.last l.granted l.expiry) s.table.maps lease reached.maps there;
    }

-- ---- a deletion

pub drop-suits : (terms : Terms) (s : State) (m : ℕ) (ask : MapAsk) (lease : MapLease) → MayDecideMap terms s m ask →
    covering s.table m ask.endpoint ≡ Some lease → Suits s (record { moment = m; change = DropMap (first_endpoint lease) })
drop-suits terms s m ask lease may h =
    let l = live-map s m ask.endpoint lease may.reached h in record {
      formed = record { moment = may.moment; change = l.formed.ports.internal };
      first = no_start s may.started;
      later = may.later;
      allowed = find-IsIn (is_map_of (first_endpoint lease)) (live s.table m).maps lease l.live (key-own lease);
      rested = tt;
      room = tt;
    }

-- ---- a renewal

renewed-formed : (terms : Terms) (m : ℕ) (ask : MapAsk) (lease : MapLease) → IsMapAsk ask → IsMapLease lease →
    has_excess lease.filters ask ≡ false → IsMapLease (renewed terms m ask lease)
renewed-formed terms m ask lease asked formed few = record {
  ports = record {
    internal = formed.ports.internal;
    external = formed.ports.external;
    some = formed.ports.some;
    few = formed.ports.few;
    internal_end = formed.ports.internal_end;
    external_end = formed.ports.external_end;
  };
  filters = folded-filters lease.filters ask.filters asked.prefixes (formed.filters.different, formed.filters.prefixes) few;
}

pub renew-suits : (terms : Terms) (s : State) (m : ℕ) (ask : MapAsk) (lease : MapLease) → MayDecideMap terms s m ask →
    IsRenewed s m ask lease → Suits s (record { moment = m; change = Map (renewed terms m ask lease) })
renew-suits terms s m ask lease may h =
    let l = live-map s m ask.endpoint lease may.reached h.covering in
    let key = is_map_of (first_endpoint lease) in
    let maps = (live s.table m).maps in
    let sound = Sound-live s.table m may.reached.sound.table in
    let new = renewed terms m ask lease in record {
      formed = record {
        moment = may.moment;
        change = (
          renewed-formed terms m ask lease may.formed l.formed h.filters,
          renewed-term terms s.last m ask.lifetime lease.granted lease.expiry may.allowed may.moment may.later l.term,
        );
      };
      first = no_start s may.started;
      later = may.later;
      allowed = if_some (find key maps) (λ old. new ≡ record old { expiry = new.expiry; filters = new.filters })
          (λ old found. let is = find-some key maps old found in
          let same : lease ≡ old = sym (same_key maps old lease sound.apart sound.maps is.0 l.live (key-same old lease is.1)) in
          ap (λ (x : MapLease). record x { expiry = new.expiry; filters = new.filters }) same);
      rested = not_none key maps lease (RestForNoOther s m (map_owners new)) l.live (key-own lease);
      room = not_none key maps lease (HasRoomForMap (live s.table m) new) l.live (key-own lease);
    }

-- ---- a grant

-- what a new lease must be to suit a state
pub record IsNewMap (s : State) (m : ℕ) (l : MapLease) : Type 0 where
  pub ports : HasPorts l
  pub uncovered : (e : Endpoint) → covers l e ≡ true → (x : MapLease) → IsIn x (live s.table m).maps → covers x e ≡ false
  pub agree : Agree (owners (live s.table m)) (map_owners l)
  pub rested : RestForNoOther s m (map_owners l)

-- the owner at the one place of a lease of one port
one_owner : (l : MapLease) (e : Endpoint) (port : ℕ) → first_endpoint l ≡ e → l.external ≡ port → l.count ≡ 1 →
    (q : Owner) → IsIn q (map_owners l) → q ≡ owner_at e port
one_owner l e port first external one q h =
    let r = map_owners-IsIn l q h in
    let zero_place : r.0 ≡ 0 = let below = r.1 in omega arith in
    let address : l.address ≡ e.address = ap (λ (x : Endpoint). x.address) first in
    let protocol : l.protocol ≡ e.protocol = ap (λ (x : Endpoint). x.protocol) first in
    let port_in : l.internal ≡ e.port = ap (λ (x : Endpoint). x.port) first in
    let endpoint : (map_owner l r.0).endpoint ≡ e = endpoint-same (map_owner l r.0).endpoint e address protocol (omega arith) in
    let outside : l.external + r.0 ≡ port = omega arith in
    sym r.2
    ∙ ap (λ (p : Protocol). record { protocol = p; external = l.external + r.0; endpoint = (map_owner l r.0).endpoint }) protocol
    ∙ ap (λ (n : ℕ). record { protocol = e.protocol; external = n; endpoint = (map_owner l r.0).endpoint }) outside
    ∙ ap (λ (x : Endpoint). record { protocol = e.protocol; external = port; endpoint = x }) endpoint

named_is_new : (terms : Terms) (s : State) (m : ℕ) (ask : MapAsk) (port : ℕ) →
    MayDecideMap terms s m ask → covering s.table m ask.endpoint ≡ None → named_port s.table m ask.endpoint ≡ Some port →
    IsNewMap s m (new_lease terms m ask (record { start = port; count = 1 }))
named_is_new terms s m ask port may none named =
    let e = ask.endpoint in
    let l = new_lease terms m ask (record { start = port; count = 1 }) in
    let sound = Sound-live s.table m may.reached.sound.table in
    let n = naming s.table m e port named in
    let formed = All-IsIn IsPeerLease (live s.table m).peers n.0 sound.peers n.1 in
    let low : 0 < n.0.external = formed.external in let high : n.0.external ≤ 65535 = formed.external_end in
    let same : n.0.external ≡ port = n.3 in
    let below : e.port ≤ 65535 = may.formed.internal.below in
    let there = named-owner s.table m e port named in
    let only = one_owner l e port refl refl refl in record {
      ports = record {
        internal = may.formed.internal.some;
        external = omega arith;
        some = omega arith;
        few = omega arith;
        internal_end = omega arith;
        external_end = omega arith;
      };
      uncovered = λ f h x there. let r = endpoint-at l e f refl h in
          let at : f ≡ e = endpoint-same f e (ap (λ (z : Endpoint). z.address) r.2) (ap (λ (z : Endpoint). z.protocol) r.2)
          (let p : f.port ≡ e.port + r.0 = ap (λ (z : Endpoint). z.port) r.2 in let k = r.1 in omega arith) in
          subst (λ (z : Endpoint). covers x z ≡ false) (sym at)
          (All-IsIn (λ y. covers y e ≡ false) (live s.table m).maps x (find-none (λ y. covers y e) (live s.table m).maps none) there);
      agree = agree-owned (owners (live s.table m)) (map_owners l) (owner_at e port) sound.one_owner sound.one_port there only;
      rested = rested-owned s m e port (map_owners l) there only;
    }

chosen-named : (terms : Terms) (s : State) (m : ℕ) (ask : MapAsk) (port : ℕ) (run : Picked) →
    MayDecideMap terms s m ask → covering s.table m ask.endpoint ≡ None → named_port s.table m ask.endpoint ≡ Some port →
    record { start = port; count = 1 } ≡ run → IsNewMap s m (new_lease terms m ask run)
chosen-named terms s m ask port run may none named same =
    subst (λ (r : Picked). IsNewMap s m (new_lease terms m ask r)) same (named_is_new terms s m ask port may none named)

-- what is known of each place of a picked run
record IsFree (terms : Terms) (s : State) (m : ℕ) (ask : MapAsk) (run : Picked) (i : ℕ) : Type 0 where
  pub open_port : IsOpenPort terms s m (with_port ask.endpoint (ask.endpoint.port + i)) (run.start + i)
  pub unused : IsUnusedInside s.table m (with_port ask.endpoint (ask.endpoint.port + i))

picked-free : (terms : Terms) (s : State) (m : ℕ) (ask : MapAsk) (run : Picked) → IsMapAsk ask →
    covering s.table m ask.endpoint ≡ None → named_port s.table m ask.endpoint ≡ None →
    pick terms s m ask.endpoint ask.port (parity_asked ask) (room_for terms s m ask) ≡ Some run →
    (i : ℕ) → i < run.count → IsFree terms s m ask run i
picked-free terms s m ask run formed none unnamed h i below =
    let within = pick-within terms s m ask.endpoint ask.port (parity_asked ask) (room_for terms s m ask) run h in
    let inside : run.count ≤ room_inside s m ask = omega arith in record {
      open_port = picked-open terms s m ask.endpoint ask.port (parity_asked ask) (room_for terms s m ask) run h i below;
      unused = elim (cases_lt 0 i) [
        | inl later ↦ unused_inside s m ask (ask.endpoint.port + i) formed (omega arith) (omega arith)
        | inr first ↦ (let same : ask.endpoint.port ≡ ask.endpoint.port + i = omega arith in
            subst (λ (k : ℕ). IsUnusedInside s.table m (with_port ask.endpoint k)) same
            (unused-from_none s.table m ask.endpoint none unnamed))
      ];
    }

chosen-picked : (terms : Terms) (s : State) (m : ℕ) (ask : MapAsk) (run : Picked) →
    MayDecideMap terms s m ask → covering s.table m ask.endpoint ≡ None → named_port s.table m ask.endpoint ≡ None →
    owned s.table m ask.endpoint.address < terms.quota →
    pick terms s m ask.endpoint ask.port (parity_asked ask) (room_for terms s m ask) ≡ Some run →
    IsNewMap s m (new_lease terms m ask run)
chosen-picked terms s m ask run may none unnamed quota h =
    let e = ask.endpoint in
    let l = new_lease terms m ask run in
    let os = owners (live s.table m) in
    let free = picked-free terms s m ask run may.formed none unnamed h in
    let room = room-some s m ask may.formed in
    let some : 1 ≤ run.count =
    picked-some terms s m e ask.port (parity_asked ask) (room_for terms s m ask) run (omega arith) h in
    let few : run.count ≤ 4096 = choice-few None terms s m ask run may.formed h in
    let within = pick-within terms s m e ask.port (parity_asked ask) (room_for terms s m ask) run h in
    let inside : e.port + room_inside s m ask ≤ 65536 = (room-few s m ask may.formed).1 in
    let first = (free 0 (omega arith)).open_port.low in
    let last = (free (run.count - 1) (omega arith)).open_port.high in
    let low : 0 < terms.external.low = may.allowed.external.low in
    let high : terms.external.high ≤ 65535 = may.allowed.external.high in record {
      ports = record {
        internal = may.formed.internal.some;
        external = omega arith;
        some = omega arith;
        few = omega arith;
        internal_end = omega arith;
        external_end = omega arith;
      };
      uncovered = λ f h x there. let r = endpoint-at l e f refl h in
          subst (λ (z : Endpoint). covers x z ≡ false) (sym r.2) ((free r.0 r.1).unused.uncovered x there);
      agree = record {
        owner = λ p q a b protocol external. let r = map_owners-IsIn l q (IsIn-from_Contains (map_owners l) q b) in
            let unowned : is_owned e.protocol (run.start + r.0) os ≡ false = (free r.0 r.1).open_port.unowned in
            let owned_port : is_owned p.protocol p.external os ≡ true = some-owned os p (IsIn-from_Contains os p a) in
            let protocols : p.protocol ≡ e.protocol = protocol ∙ ap (λ (x : Owner). x.protocol) (sym r.2) in
            let ports : p.external ≡ run.start + r.0 = external ∙ ap (λ (x : Owner). x.external) (sym r.2) in
            let same : is_owned p.protocol p.external os ≡ is_owned e.protocol (run.start + r.0) os =
            ap (λ k. is_owned k p.external os) protocols ∙ ap (λ k. is_owned e.protocol k os) ports in absurd cc;
        port = λ p q a b endpoint. let r = map_owners-IsIn l q (IsIn-from_Contains (map_owners l) q b) in
            absurd (no_owner s.table m (with_port e (e.port + r.0)) p (free r.0 r.1).unused (IsIn-from_Contains os p a)
            (endpoint ∙ ap (λ (x : Owner). x.endpoint) (sym r.2)));
      };
      rested = All-from_IsIn (λ o. (f : Endpoint) → f.protocol ≡ o.protocol → rests_for s m o.external f ≡ true → f ≡ o.endpoint)
          (map_owners l) (λ q there. let r = map_owners-IsIn l q there in
          subst (λ (o : Owner). (f : Endpoint) → f.protocol ≡ o.protocol → rests_for s m o.external f ≡ true → f ≡ o.endpoint) r.2
          (free r.0 r.1).open_port.rests);
    }

pub new-map : (terms : Terms) (s : State) (m : ℕ) (ask : MapAsk) (named : Option ℕ) (run : Picked) → MayDecideMap terms s m ask →
    IsGranted terms s m ask run → named_port s.table m ask.endpoint ≡ named →
    choice_by named terms s m ask ≡ Some run →
    (is_none named && nat_le terms.quota (owned s.table m ask.endpoint.address)) ≡ false →
    IsNewMap s m (new_lease terms m ask run)
new-map terms s m ask (Some port) run may g is h quota = chosen-named terms s m ask port run may g.uncovered is cc
new-map terms s m ask None run may g is h quota =
    chosen-picked terms s m ask run may g.uncovered is (leb-false terms.quota (owned s.table m ask.endpoint.address) quota) h

pub grant-suits : (terms : Terms) (s : State) (m : ℕ) (ask : MapAsk) (run : Picked) → MayDecideMap terms s m ask →
    IsGranted terms s m ask run → Suits s (record { moment = m; change = Map (new_lease terms m ask run) })
grant-suits terms s m ask run may g =
    let l = new_lease terms m ask run in
    let is = new-map terms s m ask (named_port s.table m ask.endpoint) run may g refl g.choice g.quota in
    let maps = (live s.table m).maps in
    let sound = Sound-live s.table m may.reached.sound.table in
    let uncovered : (x : MapLease) → IsIn x maps → covers x ask.endpoint ≡ false =
    λ x h. All-IsIn (λ y. covers y ask.endpoint ≡ false) maps x (find-none (λ y. covers y ask.endpoint) maps g.uncovered) h in record {
      formed = record {
        moment = may.moment;
        change = (
          record {
            ports = is.ports;
            filters = folded-filters [] ask.filters may.formed.prefixes (tt, tt) g.filters;
          },
          new-term terms m ask.lifetime may.allowed may.moment,
        );
      };
      first = no_start s may.started;
      later = may.later;
      allowed = if_some (find (is_map_of ask.endpoint) maps) (λ old. l ≡ record old { expiry = l.expiry; filters = l.filters })
          (λ old found. let there = find-some (is_map_of ask.endpoint) maps old found in
          let other = other_key old ask.endpoint (All-IsIn IsMapLease maps old sound.maps there.0).ports.some (uncovered old there.0) in
          absurd (let yes = there.1 in cc));
      rested = none_given (find (is_map_of ask.endpoint) maps) (RestForNoOther s m (map_owners l)) (λ _. is.rested);
      room = none_given (find (is_map_of ask.endpoint) maps) (HasRoomForMap (live s.table m) l) (λ _. record {
        apart = All-from_IsIn (λ x. AreApart x l) maps (λ x h e a b. let no = is.uncovered e b x h in absurd cc);
        agree = is.agree;
        room = leb-false MOST_LEASES (length (live s.table m).maps + length (live s.table m).peers) g.room;
      });
    }
