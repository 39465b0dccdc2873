-- What is decided on a PEER request (RFC 6887, sections 12.3 and 15; the choice of ports and the
-- order of the cases are our own).
use Rattle.std.specs.Prelude.{ℕ, ◌+◌, ◌==◌, ◌&&◌, nat_le, not, bytes_eq, List, [], ◌∷◌, Option, Some, None, is_none, unwrap_or}
use Rattle.std.specs.Option.{option_map, option_or}
use Rattle.pcp_base.specs.declared.leases.TheConstants.{MOST_PEERS}
use Rattle.pcp_base.specs.declared.leases.Endpoint.{Endpoint}
use Rattle.pcp_base.specs.declared.leases.PeerLease.{PeerLease}
use Rattle.pcp_base.specs.declared.codes.Code.TheVariants.{NoResources, UserExQuota}
use Rattle.pcp_base.specs.declared.asks.PeerAsk.{PeerAsk}
use Rattle.pcp_base.specs.declared.asks.Answer.TheVariants.{Gone, Peered}
use Rattle.pcp_base.specs.declared.records.Change.TheVariants.{Peer, DropPeer}
use Rattle.pcp_base.specs.Tables.{Table}
use Rattle.pcp_base.specs.Owners.{owned}
use Rattle.pcp_base.specs.States.{State}
use Rattle.pcp_base.specs.Cases.{Case, first_case}
use Rattle.lease_store.specs.declared.terms.Terms.{Terms}
use Rattle.lease_store.specs.Lookups.{covering, peering, named_port, peer_count}
use Rattle.lease_store.specs.Picks.{pick}
use Rattle.lease_core.specs.declared.decided.Decided.{Decided}
use Rattle.lease_core.specs.Answers.{granted_lifetime, answered, answered_with, refused, refused_until, gone, is_full, port_within}

-- ---- which port is given

-- the external port that a live lease gives the endpoint
abbrev pub given_port : Table → ℕ → Endpoint → Option ℕ
given_port t m e = option_or (option_map (port_within e) (covering t m e)) (named_port t m e)

-- the port that a live lease gives the endpoint, else the pick of one port
abbrev pub peer_choice_by : Option ℕ → Terms → State → ℕ → PeerAsk → Option ℕ
peer_choice_by (Some port) terms s m ask = Some port
peer_choice_by None terms s m ask =
    option_map (λ run. run.start) (pick terms s m ask.endpoint ask.port None 1)

-- ---- what is told and kept of a lease

-- the lease is granted or renewed
abbrev pub peered : Terms → ℕ → PeerAsk → PeerLease → Decided
peered terms m ask lease = answered_with m
    (Peered (granted_lifetime terms ask.lifetime) lease.external terms.external.address)
    (Peer lease)

-- the lease with another expiry; nothing else changes
abbrev pub renewed_peer : Terms → ℕ → PeerAsk → PeerLease → PeerLease
renewed_peer terms m ask lease = record lease { expiry = m + granted_lifetime terms ask.lifetime }

-- a lease of the chosen port
abbrev pub new_peer : Terms → ℕ → PeerAsk → ℕ → PeerLease
new_peer terms m ask port = record {
  endpoint = ask.endpoint;
  external = port;
  remote = ask.remote;
  remote_port = ask.remote_port;
  nonce = ask.nonce;
  granted = m;
  expiry = m + granted_lifetime terms ask.lifetime;
}

-- ---- the cases, of which the first that applies decides

-- there is a live PEER lease of the endpoint and remote
abbrev pub known_cases : ℕ → PeerAsk → PeerLease → List (Case Decided)
known_cases m ask lease =
    -- its nonce differs
    (record {
      applies = not (bytes_eq lease.nonce.0 ask.nonce.0);
      result = refused_until m lease.expiry;
    })
    -- a deletion
    ∷ (record {
      applies = ask.lifetime == 0;
      result = gone m (DropPeer ask.endpoint ask.remote ask.remote_port);
    })
    ∷ []

-- there is none; given is the external port that a live lease gives the endpoint
abbrev pub unknown_cases : Terms → State → ℕ → PeerAsk → Option ℕ → Option ℕ → List (Case Decided)
unknown_cases terms s m ask given choice =
    -- a deletion
    (record { applies = ask.lifetime == 0; result = answered Gone })
    -- the endpoint has all the PEER leases that it may have
    ∷ (record {
      applies = nat_le MOST_PEERS (peer_count s.table m ask.endpoint);
      result = refused UserExQuota;
    })
    -- no live lease gives the endpoint a port, and the address owns its quota
    ∷ (record {
      applies = is_none given && nat_le terms.quota (owned s.table m ask.endpoint.address);
      result = refused UserExQuota;
    })
    -- no port
    ∷ (record { applies = is_none choice; result = refused NoResources })
    -- no room for a lease
    ∷ (record { applies = is_full s.table m; result = refused NoResources })
    ∷ []

-- a lease at the choice, which there is where no case applies
abbrev pub granted_peer : Terms → ℕ → PeerAsk → Option ℕ → Decided
granted_peer terms m ask choice = peered terms m ask (new_peer terms m ask (unwrap_or choice 0))

abbrev pub unknown_by : Terms → State → ℕ → PeerAsk → Option ℕ → Option ℕ → Decided
unknown_by terms s m ask given choice =
    unwrap_or (first_case (unknown_cases terms s m ask given choice))
    (granted_peer terms m ask choice)

abbrev pub unknown : Terms → State → ℕ → PeerAsk → Option ℕ → Decided
unknown terms s m ask given =
    unknown_by terms s m ask given (peer_choice_by given terms s m ask)

abbrev pub known : Terms → ℕ → PeerAsk → PeerLease → Decided
known terms m ask lease =
    unwrap_or (first_case (known_cases m ask lease))
    (peered terms m ask (renewed_peer terms m ask lease))

abbrev pub decide_peer_by : Terms → State → ℕ → PeerAsk → Option PeerLease → Decided
decide_peer_by terms s m ask (Some lease) = known terms m ask lease
decide_peer_by terms s m ask None =
    unknown terms s m ask (given_port s.table m ask.endpoint)

unfoldable pub decide_peer : Terms → State → ℕ → PeerAsk → Decided
decide_peer terms s m ask =
    decide_peer_by terms s m ask (peering s.table m ask.endpoint ask.remote ask.remote_port)
