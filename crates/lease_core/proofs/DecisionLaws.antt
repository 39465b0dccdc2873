-- The laws of decisions.
use Rattle.std.proofs.Common.{◌≡◌, ◌∙◌, ℕ, Bool, true, false, List, [], ◌∷◌, Some, None, find, map, refl, ap, sym, subst, inl, inr}
use Rattle.std.specs.Prelude.{◌&&◌, ◌==◌, filter, flat_map, Contains, IfSome}
use Rattle.std.specs.List.{AllByRecursion}
use Rattle.std.proofs.lemmas.Bool.{and_parts, and_from, eqb-true, eq-eqb}
use Rattle.pcp_base.specs.declared.addresses.Address.{Address}
use Rattle.pcp_base.specs.declared.addresses.Nonce.{Nonce}
use Rattle.pcp_base.specs.declared.leases.Endpoint.{Endpoint}
use Rattle.pcp_base.specs.declared.leases.MapLease.{MapLease}
use Rattle.pcp_base.specs.declared.leases.PeerLease.{PeerLease}
use Rattle.pcp_base.specs.declared.leases.Owner.{Owner}
use Rattle.pcp_base.specs.declared.asks.Ask.{Ask}
use Rattle.pcp_base.specs.declared.asks.Ask.TheVariants as Asks
use Rattle.pcp_base.specs.declared.asks.MapAsk.{MapAsk}
use Rattle.pcp_base.specs.declared.asks.PeerAsk.{PeerAsk}
use Rattle.pcp_base.specs.declared.records.Record.{Record}
use Rattle.pcp_base.specs.declared.records.Change.{Change}
use Rattle.pcp_base.specs.declared.records.Change.TheVariants.{Map, Peer, DropMap, DropPeer}
use Rattle.pcp_base.specs.Tables.{live, covers, AreApart, EachTwo, HaveOtherKeys, IsMapLease, first_endpoint, is_map_of, is_peer_of, same_address, same_endpoint}
use Rattle.pcp_base.specs.Owners.{owners, map_owners, peer_owner, is_owned, OneOwner}
use Rattle.pcp_base.specs.Ends.{rests_for}
use Rattle.pcp_base.specs.States.{State}
use Rattle.pcp_base.specs.Apply.{apply}
use Rattle.pcp_base.specs.Fits.{Fits, RestForNoOther}
use Rattle.pcp_base.specs.Laws.{SuitingFits, ReachedIsKept, PortsHaveOneOwner}
use Rattle.pcp_base.specs.Reached.{IsReached}
use Rattle.pcp_base.specs.Rooms.{Suits}
use Rattle.pcp_base.specs.Sound.{SoundState}
use Rattle.pcp_base.proofs.Members.{All-IsIn, IsIn, IsIn-filter, IsIn-from_Contains, IsIn-left, IsIn-map, IsIn-right, find-none, flat_map-IsIn, map-IsIn}
use Rattle.pcp_base.proofs.Same.{same_address-Decides, same_endpoint-Decides}
use Rattle.pcp_base.proofs.EndLemmas.{some-owned}
use Rattle.pcp_base.proofs.RestLaws.{rests_for-unowned}
use Rattle.pcp_base.proofs.TableLemmas.{Sound-live, key-same, other_key, same_key}
use Rattle.lease_store.specs.declared.terms.Terms.{Terms}
use Rattle.lease_store.specs.Lookups.{named_port}
use Rattle.lease_core.specs.Decide.{decide}
use Rattle.lease_core.specs.DecideMap.{new_lease, renewed}
use Rattle.lease_core.specs.DecidePeer.{given_port, new_peer, renewed_peer}
use Rattle.lease_core.specs.Laws.{MayDecide, ChangesLease, HasNonce, nonces_of, ports_given}
use Rattle.lease_core.proofs.Deeds.{MapDeed, drop, renew, grant, map_deed, PeerDeed, drop_peer, renew_peer, grant_peer, peer_deed}
use Rattle.lease_core.proofs.MapFits.{MayDecideMap, drop-suits, grant-suits, if_some, live-map, new-map, renew-suits}
use Rattle.lease_core.proofs.PeerFits.{MayDecidePeer, drop_peer-suits, grant_peer-suits, live-peer, new-port, renew_peer-suits}

-- ---- what is kept fits

may_map : (terms : Terms) (s : State) (m : ℕ) (ask : MapAsk) → MayDecide terms s m (Asks.Map ask) → MayDecideMap terms s m ask
may_map terms s m ask h = record {
  allowed = h.allowed;
  reached = h.reached;
  started = h.started;
  later = h.later;
  moment = h.moment;
  formed = h.formed;
}

may_peer : (terms : Terms) (s : State) (m : ℕ) (ask : PeerAsk) → MayDecide terms s m (Asks.Peer ask) → MayDecidePeer terms s m ask
may_peer terms s m ask h = record {
  allowed = h.allowed;
  reached = h.reached;
  started = h.started;
  later = h.later;
  moment = h.moment;
  formed = h.formed;
}

fits-by : (room : SuitingFits) (s : State) (r : Record) → SoundState s → Suits s r → Fits s r
fits-by room s r sound suits = (room s r sound).1 suits

abbrev FitsAt : State → ℕ → Record → Type 0
FitsAt s m r = Fits s r × (r.moment ≡ m)

map-fits : (room : SuitingFits) (terms : Terms) (s : State) (m : ℕ) (ask : MapAsk) (r : Record) → MayDecideMap terms s m ask →
    MapDeed terms s m ask r → FitsAt s m r
map-fits room terms s m ask r may (drop lease found nonce same) = subst (FitsAt s m) same
    (fits-by room s (record { moment = m; change = DropMap (first_endpoint lease) }) may.reached.sound (drop-suits terms s m ask lease may found), refl)
map-fits room terms s m ask r may (renew lease is same) = subst (FitsAt s m) same
    (fits-by room s (record { moment = m; change = Map (renewed terms m ask lease) }) may.reached.sound (renew-suits terms s m ask lease may is), refl)
map-fits room terms s m ask r may (grant run is same) = subst (FitsAt s m) same
    (fits-by room s (record { moment = m; change = Map (new_lease terms m ask run) }) may.reached.sound (grant-suits terms s m ask run may is), refl)

peer-fits : (room : SuitingFits) (terms : Terms) (s : State) (m : ℕ) (ask : PeerAsk) (r : Record) → MayDecidePeer terms s m ask →
    PeerDeed terms s m ask r → FitsAt s m r
peer-fits room terms s m ask r may (drop_peer lease is same) = subst (FitsAt s m) same
    (fits-by room s (record { moment = m; change = DropPeer ask.endpoint ask.remote ask.remote_port }) may.reached.sound (drop_peer-suits terms s m ask lease may is), refl)
peer-fits room terms s m ask r may (renew_peer lease is same) = subst (FitsAt s m) same
    (fits-by room s (record { moment = m; change = Peer (renewed_peer terms m ask lease) }) may.reached.sound (renew_peer-suits terms s m ask lease may is), refl)
peer-fits room terms s m ask r may (grant_peer port is same) = subst (FitsAt s m) same
    (fits-by room s (record { moment = m; change = Peer (new_peer terms m ask port) }) may.reached.sound (grant_peer-suits terms s m ask port may is), refl)

pub kept-fits : (room : SuitingFits) (terms : Terms) (s : State) (m : ℕ) (ask : Ask) → MayDecide terms s m ask →
    (r : Record) → (decide terms s m ask).kept ≡ Some r → FitsAt s m r
kept-fits room terms s m (Asks.Known refusal) may r h = absurd cc
kept-fits room terms s m Asks.Announce may r h = absurd cc
kept-fits room terms s m (Asks.Map ask) may r h = map-fits room terms s m ask r (may_map terms s m ask may) (map_deed terms s m ask r h)
kept-fits room terms s m (Asks.Peer ask) may r h = peer-fits room terms s m ask r (may_peer terms s m ask may) (peer_deed terms s m ask r h)

pub decisions-fit : (room : SuitingFits) (terms : Terms) (s : State) (m : ℕ) (ask : Ask) → MayDecide terms s m ask →
    IfSome (decide terms s m ask).kept (λ r. Fits s r × (r.moment ≡ m))
decisions-fit room terms s m ask may = if_some (decide terms s m ask).kept (FitsAt s m) (kept-fits room terms s m ask may)

pub decisions-keep : (room : SuitingFits) (kept : ReachedIsKept) (one : PortsHaveOneOwner) (terms : Terms) (s : State) (m : ℕ) (ask : Ask) → MayDecide terms s m ask →
    IfSome (decide terms s m ask).kept (λ r. IsReached (apply s r) × ((n : ℕ) → OneOwner (owners (live (apply s r).table n))))
decisions-keep room kept one terms s m ask may =
    if_some (decide terms s m ask).kept (λ r. IsReached (apply s r) × ((n : ℕ) → OneOwner (owners (live (apply s r).table n))))
    (λ r h. let fits = (kept-fits room terms s m ask may r h).0 in
    (kept s r may.reached fits, λ n. one (apply s r) n fits.sound))

-- ---- one lease changes

abbrev ChangesAt : ℕ → Record → Type 0
ChangesAt m r = ChangesLease r.change × (r.moment ≡ m)

map-changes : (terms : Terms) (s : State) (m : ℕ) (ask : MapAsk) (r : Record) → MapDeed terms s m ask r → ChangesAt m r
map-changes terms s m ask r (drop lease found nonce same) = subst (ChangesAt m) same (tt, refl)
map-changes terms s m ask r (renew lease is same) = subst (ChangesAt m) same (tt, refl)
map-changes terms s m ask r (grant run is same) = subst (ChangesAt m) same (tt, refl)

peer-changes : (terms : Terms) (s : State) (m : ℕ) (ask : PeerAsk) (r : Record) → PeerDeed terms s m ask r → ChangesAt m r
peer-changes terms s m ask r (drop_peer lease is same) = subst (ChangesAt m) same (tt, refl)
peer-changes terms s m ask r (renew_peer lease is same) = subst (ChangesAt m) same (tt, refl)
peer-changes terms s m ask r (grant_peer port is same) = subst (ChangesAt m) same (tt, refl)

kept-changes : (terms : Terms) (s : State) (m : ℕ) (ask : Ask) (r : Record) → (decide terms s m ask).kept ≡ Some r → ChangesAt m r
kept-changes terms s m (Asks.Known refusal) r h = absurd cc
kept-changes terms s m Asks.Announce r h = absurd cc
kept-changes terms s m (Asks.Map ask) r h = map-changes terms s m ask r (map_deed terms s m ask r h)
kept-changes terms s m (Asks.Peer ask) r h = peer-changes terms s m ask r (peer_deed terms s m ask r h)

pub decisions-change : (terms : Terms) (s : State) (m : ℕ) (ask : Ask) →
    IfSome (decide terms s m ask).kept (λ r. ChangesLease r.change × (r.moment ≡ m))
decisions-change terms s m ask = if_some (decide terms s m ask).kept (ChangesAt m) (kept-changes terms s m ask)

-- ---- nonces

-- the one lease of a key has this nonce
one_map : (maps : List MapLease) (lease : MapLease) (nonce : Nonce) → EachTwo AreApart maps → AllByRecursion IsMapLease maps →
    IsIn lease maps → Contains (map (λ x. x.nonce) (filter (is_map_of (first_endpoint lease)) maps)) nonce → lease.nonce ≡ nonce
one_map maps lease nonce apart formed there h =
    let r = IsIn-map (λ (x : MapLease). x.nonce) (filter (is_map_of (first_endpoint lease)) maps) nonce
    (IsIn-from_Contains (map (λ (x : MapLease). x.nonce) (filter (is_map_of (first_endpoint lease)) maps)) nonce h) in
    let is = IsIn-filter (is_map_of (first_endpoint lease)) maps r.0 r.1 in
    ap (λ (x : MapLease). x.nonce) (same_key maps lease r.0 apart formed there is.0 (sym (key-same r.0 lease is.1))) ∙ r.2

-- none has this key
no_nonce : {X : Type 0} (f : X → Nonce) (p : X → Bool) (xs : List X) (nonce : Nonce) → ((x : X) → IsIn x xs → p x ≡ false) →
    Contains (map f (filter p xs)) nonce → ⊥
no_nonce f p xs nonce none h =
    let r = IsIn-map f (filter p xs) nonce (IsIn-from_Contains (map f (filter p xs)) nonce h) in
    let is = IsIn-filter p xs r.0 r.1 in
    let not_here = none r.0 is.0 in
    let here = is.1 in cc

not_there : {X : Type 0} (p : X → Bool) (xs : List X) → find p xs ≡ None → (x : X) → IsIn x xs → p x ≡ false
not_there p xs none x h = All-IsIn (λ y. p y ≡ false) xs x (find-none p xs none) h

map-nonce : (terms : Terms) (s : State) (m : ℕ) (ask : MapAsk) (r : Record) → IsReached s → MapDeed terms s m ask r →
    (nonce : Nonce) → Contains (nonces_of r.change (live s.table m)) nonce → ask.nonce ≡ nonce
map-nonce terms s m ask r reached (drop lease found own same) nonce h =
    let sound = Sound-live s.table m reached.sound.table in
    let l = live-map s m ask.endpoint lease reached found in
    sym own ∙ one_map (live s.table m).maps lease nonce sound.apart sound.maps l.live
    (subst (λ (x : Record). Contains (nonces_of x.change (live s.table m)) nonce) (sym same) h)
map-nonce terms s m ask r reached (renew lease is same) nonce h =
    let sound = Sound-live s.table m reached.sound.table in
    let l = live-map s m ask.endpoint lease reached is.covering in
    sym is.nonce ∙ one_map (live s.table m).maps lease nonce sound.apart sound.maps l.live
    (subst (λ (x : Record). Contains (nonces_of x.change (live s.table m)) nonce) (sym same) h)
map-nonce terms s m ask r reached (grant run is same) nonce h =
    let sound = Sound-live s.table m reached.sound.table in
    let maps = (live s.table m).maps in
    absurd (no_nonce (λ (x : MapLease). x.nonce) (is_map_of ask.endpoint) maps nonce
    (λ x there. other_key x ask.endpoint (All-IsIn IsMapLease maps x sound.maps there).ports.some
    (not_there (λ y. covers y ask.endpoint) maps is.uncovered x there))
    (subst (λ (x : Record). Contains (nonces_of x.change (live s.table m)) nonce) (sym same) h))

-- the one PEER lease of a key
same_peer : (peers : List PeerLease) (a b : PeerLease) → EachTwo HaveOtherKeys peers → IsIn a peers → IsIn b peers →
    a.endpoint ≡ b.endpoint → a.remote ≡ b.remote → a.remote_port ≡ b.remote_port → a ≡ b
same_peer [] a b each h k endpoint remote port = absurd h
same_peer (x ∷ xs) a b each (inl e) (inl f) endpoint remote port = sym e ∙ f
same_peer (x ∷ xs) a b each (inr h) (inr k) endpoint remote port = same_peer xs a b each.1 h k endpoint remote port
same_peer (x ∷ xs) a b each (inl e) (inr k) endpoint remote port =
    let other : is_peer_of b.endpoint b.remote b.remote_port x ≡ false = All-IsIn (HaveOtherKeys x) xs b each.0 k in
    let same : is_peer_of b.endpoint b.remote b.remote_port a ≡ true =
    and_from _ _ (and_from _ _ ((same_endpoint-Decides a.endpoint b.endpoint).1 endpoint) ((same_address-Decides a.remote b.remote).1 remote))
    (eq-eqb a.remote_port b.remote_port port) in
    let at : is_peer_of b.endpoint b.remote b.remote_port a ≡ false = subst (λ (z : PeerLease). is_peer_of b.endpoint b.remote b.remote_port z ≡ false) e other in
    absurd cc
same_peer (x ∷ xs) a b each (inr h) (inl f) endpoint remote port =
    let other : is_peer_of a.endpoint a.remote a.remote_port x ≡ false = All-IsIn (HaveOtherKeys x) xs a each.0 h in
    let same : is_peer_of a.endpoint a.remote a.remote_port b ≡ true =
    and_from _ _ (and_from _ _ ((same_endpoint-Decides b.endpoint a.endpoint).1 (sym endpoint)) ((same_address-Decides b.remote a.remote).1 (sym remote)))
    (eq-eqb b.remote_port a.remote_port (sym port)) in
    let at : is_peer_of a.endpoint a.remote a.remote_port b ≡ false = subst (λ (z : PeerLease). is_peer_of a.endpoint a.remote a.remote_port z ≡ false) f other in
    absurd cc

one_peer : (peers : List PeerLease) (lease : PeerLease) (e : Endpoint) (remote : Address) (port : ℕ) (nonce : Nonce) →
    EachTwo HaveOtherKeys peers → IsIn lease peers → lease.endpoint ≡ e → lease.remote ≡ remote → lease.remote_port ≡ port →
    Contains (map (λ x. x.nonce) (filter (is_peer_of e remote port) peers)) nonce → lease.nonce ≡ nonce
one_peer peers lease e remote port nonce each there endpoint_is remote_is port_is h =
    let r = IsIn-map (λ (x : PeerLease). x.nonce) (filter (is_peer_of e remote port) peers) nonce
    (IsIn-from_Contains (map (λ (x : PeerLease). x.nonce) (filter (is_peer_of e remote port) peers)) nonce h) in
    let is = IsIn-filter (is_peer_of e remote port) peers r.0 r.1 in
    let a = and_parts (same_endpoint r.0.endpoint e && same_address r.0.remote remote) (r.0.remote_port == port) is.1 in
    let b = and_parts (same_endpoint r.0.endpoint e) (same_address r.0.remote remote) a.0 in
    ap (λ (x : PeerLease). x.nonce) (same_peer peers lease r.0 each there is.0
    (endpoint_is ∙ sym ((same_endpoint-Decides r.0.endpoint e).0 b.0))
    (remote_is ∙ sym ((same_address-Decides r.0.remote remote).0 b.1))
    (port_is ∙ sym (eqb-true r.0.remote_port port a.1))) ∙ r.2

peer-nonce : (terms : Terms) (s : State) (m : ℕ) (ask : PeerAsk) (r : Record) → IsReached s → PeerDeed terms s m ask r →
    (nonce : Nonce) → Contains (nonces_of r.change (live s.table m)) nonce → ask.nonce ≡ nonce
peer-nonce terms s m ask r reached (drop_peer lease is same) nonce h =
    let sound = Sound-live s.table m reached.sound.table in
    let l = live-peer s m ask lease reached is.peering in
    sym is.nonce ∙ one_peer (live s.table m).peers lease ask.endpoint ask.remote ask.remote_port nonce sound.different l.live
    l.endpoint l.remote l.port
    (subst (λ (x : Record). Contains (nonces_of x.change (live s.table m)) nonce) (sym same) h)
peer-nonce terms s m ask r reached (renew_peer lease is same) nonce h =
    let sound = Sound-live s.table m reached.sound.table in
    let l = live-peer s m ask lease reached is.peering in
    sym is.nonce ∙ one_peer (live s.table m).peers lease lease.endpoint lease.remote lease.remote_port nonce sound.different l.live
    refl refl refl
    (subst (λ (x : Record). Contains (nonces_of x.change (live s.table m)) nonce) (sym same) h)
peer-nonce terms s m ask r reached (grant_peer port is same) nonce h =
    absurd (no_nonce (λ (x : PeerLease). x.nonce) (is_peer_of ask.endpoint ask.remote ask.remote_port) (live s.table m).peers nonce
    (not_there (is_peer_of ask.endpoint ask.remote ask.remote_port) (live s.table m).peers is.unknown)
    (subst (λ (x : Record). Contains (nonces_of x.change (live s.table m)) nonce) (sym same) h))

kept-nonce : (terms : Terms) (s : State) (m : ℕ) (ask : Ask) → IsReached s → (r : Record) →
    (decide terms s m ask).kept ≡ Some r → (nonce : Nonce) → Contains (nonces_of r.change (live s.table m)) nonce → HasNonce ask nonce
kept-nonce terms s m (Asks.Known refusal) reached r h = absurd cc
kept-nonce terms s m Asks.Announce reached r h = absurd cc
kept-nonce terms s m (Asks.Map ask) reached r h = map-nonce terms s m ask r reached (map_deed terms s m ask r h)
kept-nonce terms s m (Asks.Peer ask) reached r h = peer-nonce terms s m ask r reached (peer_deed terms s m ask r h)

pub nonces-match : (terms : Terms) (s : State) (m : ℕ) (ask : Ask) → IsReached s →
    IfSome (decide terms s m ask).kept (λ r. (nonce : Nonce) → Contains (nonces_of r.change (live s.table m)) nonce → HasNonce ask nonce)
nonces-match terms s m ask reached = if_some (decide terms s m ask).kept
    (λ r. (nonce : Nonce) → Contains (nonces_of r.change (live s.table m)) nonce → HasNonce ask nonce) (kept-nonce terms s m ask reached)

-- ---- rests

abbrev Rested : State → ℕ → Change → Type 0
Rested s m change = (o : Owner) (e : Endpoint) → Contains (ports_given change) o → e.protocol ≡ o.protocol →
    rests_for s m o.external e ≡ true → e ≡ o.endpoint

-- an owned port doesn't rest
owned-rests : (s : State) (m : ℕ) (o : Owner) (e : Endpoint) → IsIn o (owners (live s.table m)) → e.protocol ≡ o.protocol →
    rests_for s m o.external e ≡ true → e ≡ o.endpoint
owned-rests s m o e there protocol rests =
    let unowned : is_owned e.protocol o.external (owners (live s.table m)) ≡ false = rests_for-unowned s m o.external e rests in
    let owned : is_owned o.protocol o.external (owners (live s.table m)) ≡ true = some-owned (owners (live s.table m)) o there in
    let same : is_owned e.protocol o.external (owners (live s.table m)) ≡ is_owned o.protocol o.external (owners (live s.table m)) =
    ap (λ p. is_owned p o.external (owners (live s.table m))) protocol in absurd cc

new-rests : (s : State) (m : ℕ) (os : List Owner) → RestForNoOther s m os → (o : Owner) (e : Endpoint) → Contains os o →
    e.protocol ≡ o.protocol → rests_for s m o.external e ≡ true → e ≡ o.endpoint
new-rests s m os rested o e there protocol rests =
    All-IsIn (λ (p : Owner). (f : Endpoint) → f.protocol ≡ p.protocol → rests_for s m p.external f ≡ true → f ≡ p.endpoint) os o
    rested (IsIn-from_Contains os o there) e protocol rests

map-rests : (terms : Terms) (s : State) (m : ℕ) (ask : MapAsk) (r : Record) → MayDecideMap terms s m ask →
    MapDeed terms s m ask r → Rested s m r.change
map-rests terms s m ask r may (drop lease found own same) = subst (λ (x : Record). Rested s m x.change) same
    (λ o e there protocol rests. absurd (IsIn-from_Contains [] o there))
map-rests terms s m ask r may (renew lease is same) = subst (λ (x : Record). Rested s m x.change) same
    (λ o e there protocol rests. let l = live-map s m ask.endpoint lease may.reached is.covering in
    owned-rests s m o e (IsIn-left (flat_map map_owners (live s.table m).maps) (map peer_owner (live s.table m).peers) o
    (flat_map-IsIn map_owners (live s.table m).maps lease o l.live (IsIn-from_Contains (map_owners lease) o there))) protocol rests)
map-rests terms s m ask r may (grant run is same) = subst (λ (x : Record). Rested s m x.change) same
    (new-rests s m (map_owners (new_lease terms m ask run))
    (new-map terms s m ask (named_port s.table m ask.endpoint) run may is refl is.choice is.quota).rested)

peer-rests : (terms : Terms) (s : State) (m : ℕ) (ask : PeerAsk) (r : Record) → MayDecidePeer terms s m ask →
    PeerDeed terms s m ask r → Rested s m r.change
peer-rests terms s m ask r may (drop_peer lease is same) = subst (λ (x : Record). Rested s m x.change) same
    (λ o e there protocol rests. absurd (IsIn-from_Contains [] o there))
peer-rests terms s m ask r may (renew_peer lease is same) = subst (λ (x : Record). Rested s m x.change) same
    (λ o e there protocol rests. let l = live-peer s m ask lease may.reached is.peering in
    let one : peer_owner lease ≡ o = elim (IsIn-from_Contains (peer_owner lease ∷ []) o there) [ inl e ↦ e | inr h ↦ absurd h ] in
    owned-rests s m o e (IsIn-right (flat_map map_owners (live s.table m).maps) (map peer_owner (live s.table m).peers) o
    (subst (λ (x : Owner). IsIn x (map peer_owner (live s.table m).peers)) one (map-IsIn peer_owner (live s.table m).peers lease l.live)))
    protocol rests)
peer-rests terms s m ask r may (grant_peer port is same) = subst (λ (x : Record). Rested s m x.change) same
    (new-rests s m (peer_owner (new_peer terms m ask port) ∷ [])
    (new-port terms s m ask (given_port s.table m ask.endpoint) port may.allowed may.reached refl is.choice).rested)

kept-rests : (terms : Terms) (s : State) (m : ℕ) (ask : Ask) → MayDecide terms s m ask → (r : Record) →
    (decide terms s m ask).kept ≡ Some r → Rested s m r.change
kept-rests terms s m (Asks.Known refusal) may r h = absurd cc
kept-rests terms s m Asks.Announce may r h = absurd cc
kept-rests terms s m (Asks.Map ask) may r h = map-rests terms s m ask r (may_map terms s m ask may) (map_deed terms s m ask r h)
kept-rests terms s m (Asks.Peer ask) may r h = peer-rests terms s m ask r (may_peer terms s m ask may) (peer_deed terms s m ask r h)

pub rests-kept : (terms : Terms) (s : State) (m : ℕ) (ask : Ask) → MayDecide terms s m ask →
    IfSome (decide terms s m ask).kept (λ r. (o : Owner) (e : Endpoint) → Contains (ports_given r.change) o → e.protocol ≡ o.protocol →
    rests_for s m o.external e ≡ true → e ≡ o.endpoint)
rests-kept terms s m ask may = if_some (decide terms s m ask).kept (λ r. Rested s m r.change) (kept-rests terms s m ask may)
