-- What is kept of requests, by what was found.
use Rattle.std.proofs.Common.{◌≡◌, ℕ, Bool, true, false, List, [], Option, Some, None, if◌then◌else◌, refl, ap}
use Rattle.std.specs.Prelude.{◌&&◌, ◌==◌, not, nat_le, is_none, unwrap_or, bytes_eq}
use Rattle.std.proofs.lemmas.Bool.{not-false}
use Rattle.std.proofs.lemmas.Slice.Eq.{bytes_eq-Decides}
use Rattle.pcp_base.specs.declared.addresses.Nonce.{Nonce}
use Rattle.pcp_base.specs.declared.leases.TheConstants.{MOST_PEERS}
use Rattle.pcp_base.specs.declared.leases.MapLease.{MapLease}
use Rattle.pcp_base.specs.declared.leases.PeerLease.{PeerLease}
use Rattle.pcp_base.specs.declared.asks.MapAsk.{MapAsk}
use Rattle.pcp_base.specs.declared.asks.PeerAsk.{PeerAsk}
use Rattle.pcp_base.specs.declared.records.Record.{Record}
use Rattle.pcp_base.specs.declared.records.Change.TheVariants.{Map, Peer, DropMap, DropPeer}
use Rattle.pcp_base.specs.Tables.{first_endpoint}
use Rattle.pcp_base.specs.Owners.{owned}
use Rattle.pcp_base.specs.States.{State}
use Rattle.external_pool.specs.declared.asks.Picked.{Picked}
use Rattle.lease_store.specs.declared.terms.Terms.{Terms}
use Rattle.lease_store.specs.Lookups.{covering, named_port, peer_count, peering}
use Rattle.lease_core.specs.declared.decided.Decided.{Decided}
use Rattle.pcp_base.specs.declared.codes.Code.TheVariants.{NoResources, UserExQuota, CannotProvideExternal, ExcessiveRemotePeers}
use Rattle.pcp_base.specs.declared.asks.Answer.TheVariants.{Gone}
use Rattle.lease_core.specs.Answers.{answered, gone, is_address_met, is_full, is_port_met, refused, refused_until}
use Rattle.lease_core.specs.DecideMap.{choice_by, covered, decide_map, decide_map_by, granted, has_excess, is_wanted, mapped, new_lease, port_told, renewed, uncovered_by}
use Rattle.lease_core.specs.DecidePeer.{decide_peer, decide_peer_by, given_port, granted_peer, known, new_peer, peer_choice_by, peered, renewed_peer, unknown_by}

pub same_nonce : (a b : Nonce) → bytes_eq a.0 b.0 ≡ true → a ≡ b
same_nonce a b h = ap (λ (o : List ℕ). record { 0 = o }) ((bytes_eq-Decides a.0 b.0).0 h)

pub by_case : (P : Decided → Type 0) (a : Bool) (x : Decided) (rest : Option Decided) (d : Decided) →
    (a ≡ true → P x) → (a ≡ false → P (unwrap_or rest d)) → P (unwrap_or (if a then Some x else rest) d)
by_case P true x rest d there others = there refl
by_case P false x rest d there others = others refl

-- what is granted to a MAP request
pub record IsGranted (terms : Terms) (s : State) (m : ℕ) (ask : MapAsk) (run : Picked) : Type 0 where
  pub uncovered : covering s.table m ask.endpoint ≡ None
  pub choice : choice_by (named_port s.table m ask.endpoint) terms s m ask ≡ Some run
  pub quota : (is_none (named_port s.table m ask.endpoint)
      && nat_le terms.quota (owned s.table m ask.endpoint.address)) ≡ false
  pub room : is_full s.table m ≡ false
  pub filters : has_excess [] ask ≡ false

-- what is renewed by one
pub record IsRenewed (s : State) (m : ℕ) (ask : MapAsk) (lease : MapLease) : Type 0 where
  pub covering : covering s.table m ask.endpoint ≡ Some lease
  pub nonce : lease.nonce ≡ ask.nonce
  pub filters : has_excess lease.filters ask ≡ false

-- what is kept of one
pub data MapDeed (terms : Terms) (s : State) (m : ℕ) (ask : MapAsk) (r : Record) : Type 0 where
  drop : (lease : MapLease) → covering s.table m ask.endpoint ≡ Some lease → lease.nonce ≡ ask.nonce
      → record { moment = m; change = DropMap (first_endpoint lease) } ≡ r → MapDeed terms s m ask r
  renew : (lease : MapLease) → IsRenewed s m ask lease
      → record { moment = m; change = Map (renewed terms m ask lease) } ≡ r → MapDeed terms s m ask r
  grant : (run : Picked) → IsGranted terms s m ask run
      → record { moment = m; change = Map (new_lease terms m ask run) } ≡ r → MapDeed terms s m ask r

covered_deed : (terms : Terms) (s : State) (m : ℕ) (ask : MapAsk) (lease : MapLease) (r : Record) →
    covering s.table m ask.endpoint ≡ Some lease → (covered terms m ask lease).kept ≡ Some r → MapDeed terms s m ask r
covered_deed terms s m ask lease r found =
    let last = mapped terms m ask (renewed terms m ask lease) in
    let P : Decided → Type 0 = λ d. d.kept ≡ Some r → MapDeed terms s m ask r in
    by_case P (not (bytes_eq lease.nonce.0 ask.nonce.0)) (refused_until m lease.expiry) _ last (λ _ h. absurd cc)
    (λ same. let nonce = same_nonce lease.nonce ask.nonce (not-false (bytes_eq lease.nonce.0 ask.nonce.0) same) in
    by_case P (ask.lifetime == 0) (gone m (DropMap (first_endpoint lease))) _ last
    (λ _ h. drop lease found nonce cc)
    (λ _. by_case P (ask.prefer && not (is_port_met ask.port (port_told ask lease) && is_address_met ask.address terms.external.address))
    (refused CannotProvideExternal) _ last (λ _ h. absurd cc)
    (λ _. by_case P (has_excess lease.filters ask) (refused ExcessiveRemotePeers) None last (λ _ h. absurd cc)
    (λ few h. renew lease (record { covering = found; nonce = nonce; filters = few }) cc))))

by_choice : (terms : Terms) (s : State) (m : ℕ) (ask : MapAsk) (choice : Option Picked) (r : Record) →
    covering s.table m ask.endpoint ≡ None → choice_by (named_port s.table m ask.endpoint) terms s m ask ≡ choice →
    (uncovered_by terms s m ask (named_port s.table m ask.endpoint) choice).kept ≡ Some r → MapDeed terms s m ask r
by_choice terms s m ask choice r none chosen =
    let named = named_port s.table m ask.endpoint in
    let last = granted terms m ask choice in
    let P : Decided → Type 0 = λ d. d.kept ≡ Some r → MapDeed terms s m ask r in
    by_case P (ask.lifetime == 0) (answered Gone) _ last (λ _ h. absurd cc)
    (λ _. by_case P (is_none named && nat_le terms.quota (owned s.table m ask.endpoint.address)) (refused UserExQuota) _ last (λ _ h. absurd cc)
    (λ quota. by_case P (ask.prefer && not (is_wanted terms ask choice)) (refused CannotProvideExternal) _ last (λ _ h. absurd cc)
    (λ _. by_case P (is_none choice) (refused NoResources) _ last (λ _ h. absurd cc)
    (λ some. by_case P (is_full s.table m) (refused NoResources) _ last (λ _ h. absurd cc)
    (λ room. by_case P (has_excess [] ask) (refused ExcessiveRemotePeers) None last (λ _ h. absurd cc)
    (λ few. with_choice choice some chosen quota room few))))))
  where
    with_choice : (x : Option Picked) → is_none x ≡ false → choice_by (named_port s.table m ask.endpoint) terms s m ask ≡ x →
        (is_none (named_port s.table m ask.endpoint) && nat_le terms.quota (owned s.table m ask.endpoint.address)) ≡ false →
        is_full s.table m ≡ false → has_excess [] ask ≡ false → (granted terms m ask x).kept ≡ Some r → MapDeed terms s m ask r
    with_choice None some is quota room few h = absurd cc
    with_choice (Some run) some is quota room few h =
        grant run (record { uncovered = none; choice = is; quota = quota; room = room; filters = few }) cc

by_covering : (terms : Terms) (s : State) (m : ℕ) (ask : MapAsk) (found : Option MapLease) (r : Record) →
    covering s.table m ask.endpoint ≡ found → (decide_map_by terms s m ask found).kept ≡ Some r → MapDeed terms s m ask r
by_covering terms s m ask (Some lease) r is h = covered_deed terms s m ask lease r is h
by_covering terms s m ask None r is h =
    by_choice terms s m ask (choice_by (named_port s.table m ask.endpoint) terms s m ask) r is refl h

pub map_deed : (terms : Terms) (s : State) (m : ℕ) (ask : MapAsk) (r : Record) →
    (decide_map terms s m ask).kept ≡ Some r → MapDeed terms s m ask r
unfolding decide_map
map_deed terms s m ask r h = by_covering terms s m ask (covering s.table m ask.endpoint) r refl h

-- what is granted to a PEER request
pub record IsGrantedPort (terms : Terms) (s : State) (m : ℕ) (ask : PeerAsk) (port : ℕ) : Type 0 where
  pub unknown : peering s.table m ask.endpoint ask.remote ask.remote_port ≡ None
  pub few : nat_le MOST_PEERS (peer_count s.table m ask.endpoint) ≡ false
  pub choice : peer_choice_by (given_port s.table m ask.endpoint) terms s m ask ≡ Some port
  pub quota : (is_none (given_port s.table m ask.endpoint)
      && nat_le terms.quota (owned s.table m ask.endpoint.address)) ≡ false
  pub room : is_full s.table m ≡ false

-- what is renewed or deleted by one
pub record IsKnown (s : State) (m : ℕ) (ask : PeerAsk) (lease : PeerLease) : Type 0 where
  pub peering : peering s.table m ask.endpoint ask.remote ask.remote_port ≡ Some lease
  pub nonce : lease.nonce ≡ ask.nonce

pub data PeerDeed (terms : Terms) (s : State) (m : ℕ) (ask : PeerAsk) (r : Record) : Type 0 where
  drop_peer : (lease : PeerLease) → IsKnown s m ask lease
      → record { moment = m; change = DropPeer ask.endpoint ask.remote ask.remote_port } ≡ r → PeerDeed terms s m ask r
  renew_peer : (lease : PeerLease) → IsKnown s m ask lease
      → record { moment = m; change = Peer (renewed_peer terms m ask lease) } ≡ r → PeerDeed terms s m ask r
  grant_peer : (port : ℕ) → IsGrantedPort terms s m ask port
      → record { moment = m; change = Peer (new_peer terms m ask port) } ≡ r → PeerDeed terms s m ask r

known_deed : (terms : Terms) (s : State) (m : ℕ) (ask : PeerAsk) (lease : PeerLease) (r : Record) →
    peering s.table m ask.endpoint ask.remote ask.remote_port ≡ Some lease → (known terms m ask lease).kept ≡ Some r →
    PeerDeed terms s m ask r
known_deed terms s m ask lease r found =
    let last = peered terms m ask (renewed_peer terms m ask lease) in
    let P : Decided → Type 0 = λ d. d.kept ≡ Some r → PeerDeed terms s m ask r in
    by_case P (not (bytes_eq lease.nonce.0 ask.nonce.0)) (refused_until m lease.expiry) _ last (λ _ h. absurd cc)
    (λ same. let nonce = same_nonce lease.nonce ask.nonce (not-false (bytes_eq lease.nonce.0 ask.nonce.0) same) in
    by_case P (ask.lifetime == 0) (gone m (DropPeer ask.endpoint ask.remote ask.remote_port)) None last
    (λ _ h. drop_peer lease (record { peering = found; nonce = nonce }) cc)
    (λ _ h. renew_peer lease (record { peering = found; nonce = nonce }) cc))

by_port : (terms : Terms) (s : State) (m : ℕ) (ask : PeerAsk) (choice : Option ℕ) (r : Record) →
    peering s.table m ask.endpoint ask.remote ask.remote_port ≡ None →
    peer_choice_by (given_port s.table m ask.endpoint) terms s m ask ≡ choice →
    (unknown_by terms s m ask (given_port s.table m ask.endpoint) choice).kept ≡ Some r → PeerDeed terms s m ask r
by_port terms s m ask choice r none chosen =
    let given = given_port s.table m ask.endpoint in
    let last = granted_peer terms m ask choice in
    let P : Decided → Type 0 = λ d. d.kept ≡ Some r → PeerDeed terms s m ask r in
    by_case P (ask.lifetime == 0) (answered Gone) _ last (λ _ h. absurd cc)
    (λ _. by_case P (nat_le MOST_PEERS (peer_count s.table m ask.endpoint)) (refused UserExQuota) _ last (λ _ h. absurd cc)
    (λ few. by_case P (is_none given && nat_le terms.quota (owned s.table m ask.endpoint.address)) (refused UserExQuota) _ last (λ _ h. absurd cc)
    (λ quota. by_case P (is_none choice) (refused NoResources) _ last (λ _ h. absurd cc)
    (λ some. by_case P (is_full s.table m) (refused NoResources) None last (λ _ h. absurd cc)
    (λ room. with_choice choice some chosen few quota room)))))
  where
    with_choice : (x : Option ℕ) → is_none x ≡ false → peer_choice_by (given_port s.table m ask.endpoint) terms s m ask ≡ x →
        nat_le MOST_PEERS (peer_count s.table m ask.endpoint) ≡ false →
        (is_none (given_port s.table m ask.endpoint) && nat_le terms.quota (owned s.table m ask.endpoint.address)) ≡ false →
        is_full s.table m ≡ false → (granted_peer terms m ask x).kept ≡ Some r → PeerDeed terms s m ask r
    with_choice None some is few quota room h = absurd cc
    with_choice (Some port) some is few quota room h =
        grant_peer port (record { unknown = none; few = few; choice = is; quota = quota; room = room }) cc

by_peering : (terms : Terms) (s : State) (m : ℕ) (ask : PeerAsk) (found : Option PeerLease) (r : Record) →
    peering s.table m ask.endpoint ask.remote ask.remote_port ≡ found →
    (decide_peer_by terms s m ask found).kept ≡ Some r → PeerDeed terms s m ask r
by_peering terms s m ask (Some lease) r is h = known_deed terms s m ask lease r is h
by_peering terms s m ask None r is h =
    by_port terms s m ask (peer_choice_by (given_port s.table m ask.endpoint) terms s m ask) r is refl h

pub peer_deed : (terms : Terms) (s : State) (m : ℕ) (ask : PeerAsk) (r : Record) →
    (decide_peer terms s m ask).kept ≡ Some r → PeerDeed terms s m ask r
unfolding decide_peer
peer_deed terms s m ask r h =
    by_peering terms s m ask (peering s.table m ask.endpoint ask.remote ask.remote_port) r refl h
