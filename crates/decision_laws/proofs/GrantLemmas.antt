-- A lease that is kept is renewed or new.
use Rattle.std.specs.Prelude.{◌&&◌, not, nat_le, nat_lt, is_none, unwrap_or, bytes_eq}
use Rattle.std.proofs.Common.{◌≡◌, ◌∙◌, ◌⊎◌, inl, inr, ℕ, ◌+◌, ◌-◌, ◌==◌, [], Option, Some, None, refl, ap, sym, subst, arith}
use Rattle.std.proofs.lemmas.Bool.{cond_both}
use Rattle.pcp_base.proofs.Members.{Contains-from_IsIn, IsIn-filter, find-some}
use Rattle.pcp_base.specs.declared.asks.Answer.TheVariants.{Gone, Mapped, Peered}
use Rattle.pcp_base.specs.declared.asks.Ask.TheVariants as Asks
use Rattle.pcp_base.specs.declared.asks.MapAsk.{MapAsk}
use Rattle.pcp_base.specs.declared.asks.PeerAsk.{PeerAsk}
use Rattle.pcp_base.specs.declared.asks.PortSet.{PortSet}
use Rattle.pcp_base.specs.declared.codes.Code.TheVariants.{NoResources, UserExQuota, CannotProvideExternal, ExcessiveRemotePeers}
use Rattle.pcp_base.specs.declared.leases.TheConstants.{MOST_PEERS}
use Rattle.pcp_base.specs.declared.leases.MapLease.{MapLease}
use Rattle.pcp_base.specs.declared.leases.PeerLease.{PeerLease}
use Rattle.pcp_base.specs.declared.records.Change.{Change}
use Rattle.pcp_base.specs.declared.records.Change.TheVariants.{Map, Peer, DropMap, DropPeer}
use Rattle.pcp_base.specs.declared.records.Record.{Record}
use Rattle.pcp_base.specs.Owners.{owned}
use Rattle.pcp_base.specs.States.{State}
use Rattle.pcp_base.specs.Tables.{covers, first_endpoint, is_peer_of, live}
use Rattle.external_pool.specs.declared.asks.Picked.{Picked}
use Rattle.lease_store.specs.declared.terms.Terms.{Terms}
use Rattle.lease_store.specs.Lookups.{covering, named_port, peer_count, peering}
use Rattle.lease_core.specs.declared.decided.Decided.{Decided}
use Rattle.lease_core.specs.Answers.{answered, gone, granted_lifetime, is_address_met, is_full, is_port_met, refused, refused_until}
use Rattle.lease_core.specs.DecideMap.{choice_by, covered, decide_map, decide_map_by, granted, has_excess, is_wanted, mapped, new_lease, port_told, renewed, set_told, uncovered_by}
use Rattle.lease_core.specs.DecidePeer.{decide_peer, decide_peer_by, given_port, granted_peer, known, new_peer, peer_choice_by, peered, renewed_peer, unknown_by}
use Rattle.lease_core.proofs.Deeds.{MapDeed, PeerDeed, by_case, drop, drop_peer, grant, grant_peer, map_deed, peer_deed, renew, renew_peer}
use Rattle.decision_laws.specs.Granting.{IsNewMap, IsNewPeer, MapsAreGranted, PeersAreGranted, RenewsMap, RenewsPeer}

-- ---- what is told of a lease that is kept

abbrev changed : Option Record → Option Change
changed None = None
changed (Some r) = Some r.change

abbrev TellsMap : Terms → MapAsk → Decided → Type 0
TellsMap terms ask d =
    (m : ℕ) (l : MapLease) → d.kept ≡ Some (record { moment = m; change = Map l })
    → d.answer ≡ Mapped (granted_lifetime terms ask.lifetime) (port_told ask l) terms.external.address (set_told ask.set l)

mapped-tells : (terms : Terms) (at : ℕ) (ask : MapAsk) (lease : MapLease)
    → TellsMap terms ask (mapped terms at ask lease)
mapped-tells terms at ask lease m l h =
    let e : Some (Map lease) ≡ Some (Map l) = ap changed h in
    let same : lease ≡ l = cc in
    ap (λ x. Mapped (granted_lifetime terms ask.lifetime) (port_told ask x) terms.external.address (set_told ask.set x)) same

covered-tells : (terms : Terms) (at : ℕ) (ask : MapAsk) (lease : MapLease)
    → TellsMap terms ask (covered terms at ask lease)
covered-tells terms at ask lease =
    let last = mapped terms at ask (renewed terms at ask lease) in
    let P = TellsMap terms ask in
    by_case P (not (bytes_eq lease.nonce.0 ask.nonce.0)) (refused_until at lease.expiry) _ last (λ _ m l h. absurd cc)
    (λ _. by_case P (ask.lifetime == 0) (gone at (DropMap (first_endpoint lease))) _ last
    (λ _ m l h. let e : Some (DropMap (first_endpoint lease)) ≡ Some (Map l) = ap changed h in absurd cc)
    (λ _. by_case P (ask.prefer && not (is_port_met ask.port (port_told ask lease) && is_address_met ask.address terms.external.address)) (refused CannotProvideExternal) _ last (λ _ m l h. absurd cc)
    (λ _. by_case P (has_excess lease.filters ask) (refused ExcessiveRemotePeers) None last (λ _ m l h. absurd cc)
    (λ _. mapped-tells terms at ask (renewed terms at ask lease)))))

uncovered-tells : (terms : Terms) (s : State) (at : ℕ) (ask : MapAsk) (named : Option ℕ) (choice : Option Picked)
    → TellsMap terms ask (uncovered_by terms s at ask named choice)
uncovered-tells terms s at ask named choice =
    let last = granted terms at ask choice in
    let P = TellsMap terms ask in
    by_case P (ask.lifetime == 0) (answered Gone) _ last (λ _ m l h. absurd cc)
    (λ _. by_case P (is_none named && nat_le terms.quota (owned s.table at ask.endpoint.address)) (refused UserExQuota) _ last (λ _ m l h. absurd cc)
    (λ _. by_case P (ask.prefer && not (is_wanted terms ask choice)) (refused CannotProvideExternal) _ last (λ _ m l h. absurd cc)
    (λ _. by_case P (is_none choice) (refused NoResources) _ last (λ _ m l h. absurd cc)
    (λ _. by_case P (is_full s.table at) (refused NoResources) _ last (λ _ m l h. absurd cc)
    (λ _. by_case P (has_excess [] ask) (refused ExcessiveRemotePeers) None last (λ _ m l h. absurd cc)
    (λ _. mapped-tells terms at ask (new_lease terms at ask (unwrap_or choice (record { start = 0; count = 0 })))))))))

map-by : (terms : Terms) (s : State) (at : ℕ) (ask : MapAsk) (found : Option MapLease)
    → TellsMap terms ask (decide_map_by terms s at ask found)
map-by terms s at ask (Some lease) = covered-tells terms at ask lease
map-by terms s at ask None =
    let named = named_port s.table at ask.endpoint in
    uncovered-tells terms s at ask named (choice_by named terms s at ask)

map-tells : (terms : Terms) (s : State) (at : ℕ) (ask : MapAsk) → TellsMap terms ask (decide_map terms s at ask)
unfolding decide_map
map-tells terms s at ask = map-by terms s at ask (covering s.table at ask.endpoint)

-- of a new lease the port of its first internal port is told, which is its external one
new-told : (terms : Terms) (m : ℕ) (ask : MapAsk) (run : Picked) → port_told ask (new_lease terms m ask run) ≡ run.start
new-told terms m ask run = by ask.set
  where
    within : run.start + (ask.endpoint.port - ask.endpoint.port) ≡ run.start
    within = omega arith

    by : (set : Option PortSet) → port_told (record ask { set = set }) (new_lease terms m ask run) ≡ run.start
    by None = within
    by (Some set) = cond_both (nat_lt 1 run.count) run.start (run.start + (ask.endpoint.port - ask.endpoint.port)) (λ n. n ≡ run.start) (λ _. refl) (λ _. within)

-- ---- MAP

map-by-deed : (terms : Terms) (s : State) (m : ℕ) (ask : MapAsk) (l : MapLease)
    → (decide_map terms s m ask).kept ≡ Some (record { moment = m; change = Map l })
    → MapDeed terms s m ask (record { moment = m; change = Map l })
    → RenewsMap s l ⊎ IsNewMap terms ask (decide_map terms s m ask).answer l
map-by-deed terms s m ask l h (drop lease found nonce same) =
    let e : DropMap (first_endpoint lease) ≡ Map l = ap (λ (x : Record). x.change) same in
    absurd cc
map-by-deed terms s m ask l h (renew lease is same) =
    let e : Map (renewed terms m ask lease) ≡ Map l = ap (λ (x : Record). x.change) same in
    let lease_is : renewed terms m ask lease ≡ l = cc in
    let there = find-some (λ x. covers x ask.endpoint) (live s.table m).maps lease is.covering in
    let among = IsIn-filter (λ (x : MapLease). nat_lt m x.expiry) s.table.maps lease there.0 in
    inl (record {
      old = lease;
      among = Contains-from_IsIn s.table.maps lease among.0;
      same = subst (λ (x : MapLease). x ≡ record lease { expiry = x.expiry; filters = x.filters }) lease_is refl;
    })
map-by-deed terms s m ask l h (grant run is same) =
    let e : Map (new_lease terms m ask run) ≡ Map l = ap (λ (x : Record). x.change) same in
    let lease_is : new_lease terms m ask run ≡ l = cc in
    let port : port_told ask l ≡ l.external =
    subst (λ (x : MapLease). port_told ask x ≡ x.external) lease_is (new-told terms m ask run) in
    inr (record {
      address = ap (λ (x : MapLease). x.address) (sym lease_is);
      protocol = ap (λ (x : MapLease). x.protocol) (sym lease_is);
      internal = ap (λ (x : MapLease). x.internal) (sym lease_is);
      nonce = ap (λ (x : MapLease). x.nonce) (sym lease_is);
      set = set_told ask.set l;
      told = map-tells terms s m ask m l h
          ∙ ap (λ n. Mapped (granted_lifetime terms ask.lifetime) n terms.external.address (set_told ask.set l)) port;
    })

-- ---- PEER

abbrev TellsPeer : Terms → PeerAsk → Decided → Type 0
TellsPeer terms ask d =
    (m : ℕ) (l : PeerLease) → d.kept ≡ Some (record { moment = m; change = Peer l })
    → d.answer ≡ Peered (granted_lifetime terms ask.lifetime) l.external terms.external.address

peered-tells : (terms : Terms) (at : ℕ) (ask : PeerAsk) (lease : PeerLease)
    → TellsPeer terms ask (peered terms at ask lease)
peered-tells terms at ask lease m l h =
    let e : Some (Peer lease) ≡ Some (Peer l) = ap changed h in
    let same : lease ≡ l = cc in
    ap (λ (x : PeerLease). Peered (granted_lifetime terms ask.lifetime) x.external terms.external.address) same

known-tells : (terms : Terms) (at : ℕ) (ask : PeerAsk) (lease : PeerLease) → TellsPeer terms ask (known terms at ask lease)
known-tells terms at ask lease =
    let last = peered terms at ask (renewed_peer terms at ask lease) in
    let P = TellsPeer terms ask in
    by_case P (not (bytes_eq lease.nonce.0 ask.nonce.0)) (refused_until at lease.expiry) _ last (λ _ m l h. absurd cc)
    (λ _. by_case P (ask.lifetime == 0) (gone at (DropPeer ask.endpoint ask.remote ask.remote_port)) None last
    (λ _ m l h. let e : Some (DropPeer ask.endpoint ask.remote ask.remote_port) ≡ Some (Peer l) = ap changed h in absurd cc)
    (λ _. peered-tells terms at ask (renewed_peer terms at ask lease)))

unknown-tells : (terms : Terms) (s : State) (at : ℕ) (ask : PeerAsk) (given choice : Option ℕ)
    → TellsPeer terms ask (unknown_by terms s at ask given choice)
unknown-tells terms s at ask given choice =
    let last = granted_peer terms at ask choice in
    let P = TellsPeer terms ask in
    by_case P (ask.lifetime == 0) (answered Gone) _ last (λ _ m l h. absurd cc)
    (λ _. by_case P (nat_le MOST_PEERS (peer_count s.table at ask.endpoint)) (refused UserExQuota) _ last (λ _ m l h. absurd cc)
    (λ _. by_case P (is_none given && nat_le terms.quota (owned s.table at ask.endpoint.address)) (refused UserExQuota) _ last (λ _ m l h. absurd cc)
    (λ _. by_case P (is_none choice) (refused NoResources) _ last (λ _ m l h. absurd cc)
    (λ _. by_case P (is_full s.table at) (refused NoResources) None last (λ _ m l h. absurd cc)
    (λ _. peered-tells terms at ask (new_peer terms at ask (unwrap_or choice 0)))))))

peer-by : (terms : Terms) (s : State) (at : ℕ) (ask : PeerAsk) (found : Option PeerLease)
    → TellsPeer terms ask (decide_peer_by terms s at ask found)
peer-by terms s at ask (Some lease) = known-tells terms at ask lease
peer-by terms s at ask None =
    let given = given_port s.table at ask.endpoint in
    unknown-tells terms s at ask given (peer_choice_by given terms s at ask)

peer-tells : (terms : Terms) (s : State) (at : ℕ) (ask : PeerAsk) → TellsPeer terms ask (decide_peer terms s at ask)
unfolding decide_peer
peer-tells terms s at ask = peer-by terms s at ask (peering s.table at ask.endpoint ask.remote ask.remote_port)

peer-by-deed : (terms : Terms) (s : State) (m : ℕ) (ask : PeerAsk) (l : PeerLease)
    → (decide_peer terms s m ask).kept ≡ Some (record { moment = m; change = Peer l })
    → PeerDeed terms s m ask (record { moment = m; change = Peer l })
    → RenewsPeer s l ⊎ IsNewPeer terms ask (decide_peer terms s m ask).answer l
peer-by-deed terms s m ask l h (drop_peer lease is same) =
    let e : DropPeer ask.endpoint ask.remote ask.remote_port ≡ Peer l = ap (λ (x : Record). x.change) same in
    absurd cc
peer-by-deed terms s m ask l h (renew_peer lease is same) =
    let e : Peer (renewed_peer terms m ask lease) ≡ Peer l = ap (λ (x : Record). x.change) same in
    let lease_is : renewed_peer terms m ask lease ≡ l = cc in
    let there = find-some (is_peer_of ask.endpoint ask.remote ask.remote_port) (live s.table m).peers lease is.peering in
    let among = IsIn-filter (λ (x : PeerLease). nat_lt m x.expiry) s.table.peers lease there.0 in
    inl (record {
      old = lease;
      among = Contains-from_IsIn s.table.peers lease among.0;
      same = subst (λ (x : PeerLease). x ≡ record lease { expiry = x.expiry }) lease_is refl;
    })
peer-by-deed terms s m ask l h (grant_peer port is same) =
    let e : Peer (new_peer terms m ask port) ≡ Peer l = ap (λ (x : Record). x.change) same in
    let lease_is : new_peer terms m ask port ≡ l = cc in
    inr (record {
      endpoint = ap (λ (x : PeerLease). x.endpoint) (sym lease_is);
      remote = ap (λ (x : PeerLease). x.remote) (sym lease_is);
      remote_port = ap (λ (x : PeerLease). x.remote_port) (sym lease_is);
      nonce = ap (λ (x : PeerLease). x.nonce) (sym lease_is);
      told = peer-tells terms s m ask m l h;
    })

-- ---- every ask keeps a lease of its own kind alone

map-no-peer : (terms : Terms) (s : State) (m : ℕ) (ask : MapAsk) (l : PeerLease)
    → MapDeed terms s m ask (record { moment = m; change = Peer l }) → ⊥
map-no-peer terms s m ask l (drop lease found nonce same) =
    let e : DropMap (first_endpoint lease) ≡ Peer l = ap (λ (x : Record). x.change) same in
    absurd cc
map-no-peer terms s m ask l (renew lease is same) =
    let e : Map (renewed terms m ask lease) ≡ Peer l = ap (λ (x : Record). x.change) same in
    absurd cc
map-no-peer terms s m ask l (grant run is same) =
    let e : Map (new_lease terms m ask run) ≡ Peer l = ap (λ (x : Record). x.change) same in
    absurd cc

peer-no-map : (terms : Terms) (s : State) (m : ℕ) (ask : PeerAsk) (l : MapLease)
    → PeerDeed terms s m ask (record { moment = m; change = Map l }) → ⊥
peer-no-map terms s m ask l (drop_peer lease is same) =
    let e : DropPeer ask.endpoint ask.remote ask.remote_port ≡ Map l = ap (λ (x : Record). x.change) same in
    absurd cc
peer-no-map terms s m ask l (renew_peer lease is same) =
    let e : Peer (renewed_peer terms m ask lease) ≡ Map l = ap (λ (x : Record). x.change) same in
    absurd cc
peer-no-map terms s m ask l (grant_peer port is same) =
    let e : Peer (new_peer terms m ask port) ≡ Map l = ap (λ (x : Record). x.change) same in
    absurd cc

pub maps-are-granted : MapsAreGranted
maps-are-granted terms s m (Asks.Known refusal) l h = absurd cc
maps-are-granted terms s m Asks.Announce l h = absurd cc
maps-are-granted terms s m (Asks.Map ask) l h =
    map-by-deed terms s m ask l h (map_deed terms s m ask (record { moment = m; change = Map l }) h)
maps-are-granted terms s m (Asks.Peer ask) l h =
    absurd (peer-no-map terms s m ask l (peer_deed terms s m ask (record { moment = m; change = Map l }) h))

pub peers-are-granted : PeersAreGranted
peers-are-granted terms s m (Asks.Known refusal) l h = absurd cc
peers-are-granted terms s m Asks.Announce l h = absurd cc
peers-are-granted terms s m (Asks.Peer ask) l h =
    peer-by-deed terms s m ask l h (peer_deed terms s m ask (record { moment = m; change = Peer l }) h)
peers-are-granted terms s m (Asks.Map ask) l h =
    absurd (map-no-peer terms s m ask l (map_deed terms s m ask (record { moment = m; change = Peer l }) h))
