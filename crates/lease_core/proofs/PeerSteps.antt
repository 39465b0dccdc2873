-- What the steps of a decision on a PEER request know of one another.
use Rattle.std.proofs.Common.{◌≡◌, ◌∙◌, ℕ, Option, ap}
use Rattle.pcp_base.specs.declared.leases.PeerLease.{PeerLease}
use Rattle.pcp_base.specs.declared.asks.PeerAsk.{PeerAsk}
use Rattle.pcp_base.specs.States.{State}
use Rattle.lease_store.specs.declared.terms.Terms.{Terms}
use Rattle.lease_store.specs.Lookups.{peering}
use Rattle.lease_core.specs.DecidePeer.{decide_peer, decide_peer_by}

-- by what is found at the moment reached
pub peer_decided_by : (terms : Terms) (s : State) (n m : ℕ) (ask : PeerAsk) (found : Option PeerLease) → n ≡ m →
    found ≡ peering s.table n ask.endpoint ask.remote ask.remote_port →
    decide_peer_by terms s m ask found ≡ decide_peer terms s m ask
unfolding decide_peer
peer_decided_by terms s n m ask found same told =
    ap (decide_peer_by terms s m ask) (told ∙ ap (λ k. peering s.table k ask.endpoint ask.remote ask.remote_port) same)
