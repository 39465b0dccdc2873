-- Every answer that grants tells the external address of the terms.
use Rattle.std.proofs.Common.{ℕ, ◌==◌, ◌&&◌, not, nat_le, [], Option, Some, None, refl}
use Rattle.std.specs.Prelude.{is_none, bytes_eq}
use Rattle.pcp_base.specs.declared.asks.Ask.TheVariants as Asks
use Rattle.pcp_base.specs.declared.asks.Answer.TheVariants.{Gone}
use Rattle.pcp_base.specs.declared.asks.MapAsk.{MapAsk}
use Rattle.pcp_base.specs.declared.asks.PeerAsk.{PeerAsk}
use Rattle.pcp_base.specs.declared.codes.Code.TheVariants.{NoResources, UserExQuota, CannotProvideExternal, ExcessiveRemotePeers}
use Rattle.pcp_base.specs.declared.leases.TheConstants.{MOST_PEERS}
use Rattle.pcp_base.specs.declared.leases.MapLease.{MapLease}
use Rattle.pcp_base.specs.declared.leases.PeerLease.{PeerLease}
use Rattle.pcp_base.specs.declared.records.Change.TheVariants.{DropMap, DropPeer}
use Rattle.pcp_base.specs.Owners.{owned}
use Rattle.pcp_base.specs.States.{State}
use Rattle.pcp_base.specs.Tables.{first_endpoint}
use Rattle.external_pool.specs.declared.asks.Picked.{Picked}
use Rattle.lease_store.specs.declared.terms.Terms.{Terms}
use Rattle.lease_store.specs.Lookups.{covering, named_port, peer_count, peering}
use Rattle.lease_core.specs.declared.decided.Decided.{Decided}
use Rattle.lease_core.specs.Answers.{answered, gone, is_address_met, is_full, is_port_met, refused, refused_until}
use Rattle.lease_core.specs.DecideMap.{choice_by, covered, decide_map, decide_map_by, granted, has_excess, is_wanted, mapped, port_told, renewed, uncovered_by}
use Rattle.lease_core.specs.DecidePeer.{decide_peer, decide_peer_by, given_port, granted_peer, known, peer_choice_by, peered, renewed_peer, unknown_by}
use Rattle.lease_core.proofs.Deeds.{by_case}
use Rattle.decision_laws.specs.Addresses.{AnswersTellTheAddress, TellsAddress}

abbrev Tells : Terms → Decided → Type 0
Tells terms d = TellsAddress terms.external.address d.answer

covered-address : (terms : Terms) (at : ℕ) (ask : MapAsk) (lease : MapLease) → Tells terms (covered terms at ask lease)
covered-address terms at ask lease =
    let last = mapped terms at ask (renewed terms at ask lease) in
    let P = Tells terms in
    by_case P (not (bytes_eq lease.nonce.0 ask.nonce.0)) (refused_until at lease.expiry) _ last (λ _. tt)
    (λ _. by_case P (ask.lifetime == 0) (gone at (DropMap (first_endpoint lease))) _ last (λ _. tt)
    (λ _. by_case P (ask.prefer && not (is_port_met ask.port (port_told ask lease) && is_address_met ask.address terms.external.address)) (refused CannotProvideExternal) _ last (λ _. tt)
    (λ _. by_case P (has_excess lease.filters ask) (refused ExcessiveRemotePeers) None last (λ _. tt) (λ _. refl))))

uncovered-address : (terms : Terms) (s : State) (at : ℕ) (ask : MapAsk) (named : Option ℕ) (choice : Option Picked)
    → Tells terms (uncovered_by terms s at ask named choice)
uncovered-address terms s at ask named choice =
    let last = granted terms at ask choice in
    let P = Tells terms in
    by_case P (ask.lifetime == 0) (answered Gone) _ last (λ _. tt)
    (λ _. by_case P (is_none named && nat_le terms.quota (owned s.table at ask.endpoint.address)) (refused UserExQuota) _ last (λ _. tt)
    (λ _. by_case P (ask.prefer && not (is_wanted terms ask choice)) (refused CannotProvideExternal) _ last (λ _. tt)
    (λ _. by_case P (is_none choice) (refused NoResources) _ last (λ _. tt)
    (λ _. by_case P (is_full s.table at) (refused NoResources) _ last (λ _. tt)
    (λ _. by_case P (has_excess [] ask) (refused ExcessiveRemotePeers) None last (λ _. tt) (λ _. refl))))))

map-by : (terms : Terms) (s : State) (at : ℕ) (ask : MapAsk) (found : Option MapLease)
    → Tells terms (decide_map_by terms s at ask found)
map-by terms s at ask (Some lease) = covered-address terms at ask lease
map-by terms s at ask None =
    let named = named_port s.table at ask.endpoint in
    uncovered-address terms s at ask named (choice_by named terms s at ask)

map-address : (terms : Terms) (s : State) (at : ℕ) (ask : MapAsk) → Tells terms (decide_map terms s at ask)
unfolding decide_map
map-address terms s at ask = map-by terms s at ask (covering s.table at ask.endpoint)

known-address : (terms : Terms) (at : ℕ) (ask : PeerAsk) (lease : PeerLease) → Tells terms (known terms at ask lease)
known-address terms at ask lease =
    let last = peered terms at ask (renewed_peer terms at ask lease) in
    let P = Tells terms in
    by_case P (not (bytes_eq lease.nonce.0 ask.nonce.0)) (refused_until at lease.expiry) _ last (λ _. tt)
    (λ _. by_case P (ask.lifetime == 0) (gone at (DropPeer ask.endpoint ask.remote ask.remote_port)) None last (λ _. tt) (λ _. refl))

unknown-address : (terms : Terms) (s : State) (at : ℕ) (ask : PeerAsk) (given choice : Option ℕ)
    → Tells terms (unknown_by terms s at ask given choice)
unknown-address terms s at ask given choice =
    let last = granted_peer terms at ask choice in
    let P = Tells terms in
    by_case P (ask.lifetime == 0) (answered Gone) _ last (λ _. tt)
    (λ _. by_case P (nat_le MOST_PEERS (peer_count s.table at ask.endpoint)) (refused UserExQuota) _ last (λ _. tt)
    (λ _. by_case P (is_none given && nat_le terms.quota (owned s.table at ask.endpoint.address)) (refused UserExQuota) _ last (λ _. tt)
    (λ _. by_case P (is_none choice) (refused NoResources) _ last (λ _. tt)
    (λ _. by_case P (is_full s.table at) (refused NoResources) None last (λ _. tt) (λ _. refl)))))

peer-by : (terms : Terms) (s : State) (at : ℕ) (ask : PeerAsk) (found : Option PeerLease)
    → Tells terms (decide_peer_by terms s at ask found)
peer-by terms s at ask (Some lease) = known-address terms at ask lease
peer-by terms s at ask None =
    let given = given_port s.table at ask.endpoint in
    unknown-address terms s at ask given (peer_choice_by given terms s at ask)

peer-address : (terms : Terms) (s : State) (at : ℕ) (ask : PeerAsk) → Tells terms (decide_peer terms s at ask)
unfolding decide_peer
peer-address terms s at ask = peer-by terms s at ask (peering s.table at ask.endpoint ask.remote ask.remote_port)

pub answers-address : AnswersTellTheAddress
answers-address terms s m (Asks.Known refusal) = tt
answers-address terms s m Asks.Announce = tt
answers-address terms s m (Asks.Map ask) = map-address terms s m ask
answers-address terms s m (Asks.Peer ask) = peer-address terms s m ask
