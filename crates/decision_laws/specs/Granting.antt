-- Where the lease that a decision keeps comes from (our own).
use Rattle.std.specs.Prelude.{◌≡◌, ◌⊎◌, ℕ, Contains, Option, Some}
use Rattle.pcp_base.specs.declared.asks.Answer.{Answer}
use Rattle.pcp_base.specs.declared.asks.Answer.TheVariants.{Mapped, Peered}
use Rattle.pcp_base.specs.declared.asks.Ask.{Ask}
use Rattle.pcp_base.specs.declared.asks.Ask.TheVariants as Asks
use Rattle.pcp_base.specs.declared.asks.MapAsk.{MapAsk}
use Rattle.pcp_base.specs.declared.asks.PeerAsk.{PeerAsk}
use Rattle.pcp_base.specs.declared.asks.PortSet.{PortSet}
use Rattle.pcp_base.specs.declared.leases.MapLease.{MapLease}
use Rattle.pcp_base.specs.declared.leases.PeerLease.{PeerLease}
use Rattle.pcp_base.specs.declared.records.Change.TheVariants.{Map, Peer}
use Rattle.pcp_base.specs.States.{State}
use Rattle.lease_store.specs.declared.terms.Terms.{Terms}
use Rattle.lease_core.specs.Answers.{granted_lifetime}
use Rattle.lease_core.specs.Decide.{decide}

-- a lease of the table, of which only the expiry and the filters changed
pub record RenewsMap (s : State) (l : MapLease) : Type 0 where
  pub old : MapLease
  pub among : Contains s.table.maps old
  pub same : l ≡ record old { expiry = l.expiry; filters = l.filters }

-- a new one for the endpoint that is asked for, whose external port is told
pub record IsNewMap (terms : Terms) (ask : MapAsk) (answer : Answer) (l : MapLease) : Type 0 where
  pub address : l.address ≡ ask.endpoint.address
  pub protocol : l.protocol ≡ ask.endpoint.protocol
  pub internal : l.internal ≡ ask.endpoint.port
  pub nonce : l.nonce ≡ ask.nonce
  pub set : Option PortSet
  pub told : answer
      ≡ Mapped (granted_lifetime terms ask.lifetime) l.external terms.external.address set

abbrev pub IsNewMapOf : Terms → Ask → Answer → MapLease → Type 0
IsNewMapOf terms (Asks.Map ask) answer l = IsNewMap terms ask answer l
IsNewMapOf terms ask answer l = ⊥

-- each MAP lease that is kept is one of these
abbrev pub MapsAreGranted : Type 0
MapsAreGranted = (terms : Terms) (s : State) (m : ℕ) (ask : Ask) (l : MapLease)
    → (decide terms s m ask).kept ≡ Some (record { moment = m; change = Map l })
    → RenewsMap s l ⊎ IsNewMapOf terms ask (decide terms s m ask).answer l

-- the same for PEER, whose leases have no filters
pub record RenewsPeer (s : State) (l : PeerLease) : Type 0 where
  pub old : PeerLease
  pub among : Contains s.table.peers old
  pub same : l ≡ record old { expiry = l.expiry }

pub record IsNewPeer (terms : Terms) (ask : PeerAsk) (answer : Answer) (l : PeerLease) : Type 0 where
  pub endpoint : l.endpoint ≡ ask.endpoint
  pub remote : l.remote ≡ ask.remote
  pub remote_port : l.remote_port ≡ ask.remote_port
  pub nonce : l.nonce ≡ ask.nonce
  pub told : answer
      ≡ Peered (granted_lifetime terms ask.lifetime) l.external terms.external.address

abbrev pub IsNewPeerOf : Terms → Ask → Answer → PeerLease → Type 0
IsNewPeerOf terms (Asks.Peer ask) answer l = IsNewPeer terms ask answer l
IsNewPeerOf terms ask answer l = ⊥

abbrev pub PeersAreGranted : Type 0
PeersAreGranted = (terms : Terms) (s : State) (m : ℕ) (ask : Ask) (l : PeerLease)
    → (decide terms s m ask).kept ≡ Some (record { moment = m; change = Peer l })
    → RenewsPeer s l ⊎ IsNewPeerOf terms ask (decide terms s m ask).answer l
