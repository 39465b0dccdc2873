-- The laws of decisions.
use Rattle.std.specs.Prelude.{◌≡◌, ℕ, ◌^◌, ◌<◌, ◌≤◌, true, List, [], ◌∷◌, map, filter, Contains, IfSome, ⊤}
use Rattle.pcp_base.specs.declared.addresses.Nonce.{Nonce}
use Rattle.pcp_base.specs.declared.leases.Endpoint.{Endpoint}
use Rattle.pcp_base.specs.declared.leases.Owner.{Owner}
use Rattle.pcp_base.specs.declared.asks.Ask.{Ask}
use Rattle.pcp_base.specs.declared.asks.Ask.TheVariants as Asks
use Rattle.pcp_base.specs.declared.records.Change.{Change}
use Rattle.pcp_base.specs.declared.records.Change.TheVariants.{Map, Peer, DropMap, DropPeer}
use Rattle.pcp_base.specs.Asks.{IsWellFormedAsk}
use Rattle.pcp_base.specs.Tables.{Table, live, first_endpoint, is_map_of, is_peer_of}
use Rattle.pcp_base.specs.Owners.{owners, map_owners, peer_owner, OneOwner}
use Rattle.pcp_base.specs.States.{State}
use Rattle.pcp_base.specs.Ends.{rests_for}
use Rattle.pcp_base.specs.Apply.{apply}
use Rattle.pcp_base.specs.Fits.{Fits}
use Rattle.pcp_base.specs.Reached.{IsReached}
use Rattle.lease_store.specs.declared.terms.Terms.{Terms}
use Rattle.lease_store.specs.LeaseTerms.{AreTerms}
use Rattle.lease_core.specs.Decide.{decide}

-- a well formed ask, at a moment that isn't below the last one, in a state that fitting records
-- made, of which the first was a Start
pub record MayDecide (terms : Terms) (s : State) (m : ℕ) (ask : Ask) : Type 0 where
  pub allowed : AreTerms terms
  pub reached : IsReached s
  pub started : s.started ≡ true
  pub later : s.last ≤ m
  pub moment : m < 2 ^ 40
  pub formed : IsWellFormedAsk ask

-- it grants, renews or deletes one lease
abbrev pub ChangesLease : Change → Type 0
ChangesLease (Map l) = ⊤
ChangesLease (Peer l) = ⊤
ChangesLease (DropMap e) = ⊤
ChangesLease (DropPeer e remote port) = ⊤
ChangesLease change = ⊥

-- the record of a decision does so, and has its moment
abbrev pub DecisionsChangeLeases : Type 0
DecisionsChangeLeases = (terms : Terms) (s : State) (m : ℕ) (ask : Ask) →
    IfSome (decide terms s m ask).kept (λ r. ChangesLease r.change × (r.moment ≡ m))

-- the record of a decision fits, and has its moment
abbrev pub DecisionsFit : Type 0
DecisionsFit = (terms : Terms) (s : State) (m : ℕ) (ask : Ask) → MayDecide terms s m ask →
    IfSome (decide terms s m ask).kept (λ r. Fits s r × (r.moment ≡ m))

-- after it the state is one that fitting records made, and at each moment each port has one owner
abbrev pub DecisionsKeepReached : Type 0
DecisionsKeepReached = (terms : Terms) (s : State) (m : ℕ) (ask : Ask) → MayDecide terms s m ask →
    IfSome (decide terms s m ask).kept (λ r.
    IsReached (apply s r) × ((n : ℕ) → OneOwner (owners (live (apply s r).table n))))

-- the nonces of the leases that a change replaces or removes
abbrev pub nonces_of : Change → Table → List Nonce
nonces_of (Map l) t = map (λ x. x.nonce) (filter (is_map_of (first_endpoint l)) t.maps)
nonces_of (Peer l) t =
    map (λ x. x.nonce) (filter (is_peer_of l.endpoint l.remote l.remote_port) t.peers)
nonces_of (DropMap e) t = map (λ x. x.nonce) (filter (is_map_of e) t.maps)
nonces_of (DropPeer e remote port) t =
    map (λ x. x.nonce) (filter (is_peer_of e remote port) t.peers)
nonces_of change t = []

-- the request has this nonce
abbrev pub HasNonce : Ask → Nonce → Type 0
HasNonce (Asks.Map ask) nonce = ask.nonce ≡ nonce
HasNonce (Asks.Peer ask) nonce = ask.nonce ≡ nonce
HasNonce ask nonce = ⊥

-- a live lease is replaced or removed by a request with its nonce alone
abbrev pub NoncesMatch : Type 0
NoncesMatch = (terms : Terms) (s : State) (m : ℕ) (ask : Ask) → IsReached s →
    IfSome (decide terms s m ask).kept (λ r.
    (nonce : Nonce) → Contains (nonces_of r.change (live s.table m)) nonce → HasNonce ask nonce)

-- the ports that a change gives or leaves to endpoints
abbrev pub ports_given : Change → List Owner
ports_given (Map l) = map_owners l
ports_given (Peer l) = peer_owner l ∷ []
ports_given change = []

-- no port that rests for one endpoint is given to another
abbrev pub RestsAreKept : Type 0
RestsAreKept = (terms : Terms) (s : State) (m : ℕ) (ask : Ask) → MayDecide terms s m ask →
    IfSome (decide terms s m ask).kept (λ r.
    (o : Owner) (e : Endpoint) → Contains (ports_given r.change) o → e.protocol ≡ o.protocol →
    rests_for s m o.external e ≡ true → e ≡ o.endpoint)
