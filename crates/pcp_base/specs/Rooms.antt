-- Whether a sound table has room for a new lease (our own).
use Rattle.std.specs.Prelude.{◌≡◌, ◌+◌, ◌<◌, ◌≤◌, not, List, [], ◌∷◌, length, count_by, find, Contains, IfNone, ⊤}
use Rattle.std.specs.List.{AllByRecursion}
use Rattle.pcp_base.specs.declared.leases.TheConstants.{MOST_LEASES, MOST_PEERS}
use Rattle.pcp_base.specs.declared.leases.MapLease.{MapLease}
use Rattle.pcp_base.specs.declared.leases.PeerLease.{PeerLease}
use Rattle.pcp_base.specs.declared.leases.Owner.{Owner}
use Rattle.pcp_base.specs.declared.records.Change.{Change}
use Rattle.pcp_base.specs.declared.records.Change.TheVariants.{Map, Peer}
use Rattle.pcp_base.specs.declared.records.Record.{Record}
use Rattle.pcp_base.specs.Tables.{Table, live, AreApart, first_endpoint, is_map_of, is_peer_of, names}
use Rattle.pcp_base.specs.Owners.{map_owners, peer_owner, owners}
use Rattle.pcp_base.specs.States.{State}
use Rattle.pcp_base.specs.Records.{IsWellFormedRecord}
use Rattle.pcp_base.specs.Apply.{is_start}
use Rattle.pcp_base.specs.Fits.{IsAllowed, IsRested, IsOfFirst}

-- A port of both has one owner, and an endpoint of both has one port.
pub record Agree (os ps : List Owner) : Type 0 where
  pub owner : (p q : Owner) → Contains os p → Contains ps q →
      p.protocol ≡ q.protocol → p.external ≡ q.external → p.endpoint ≡ q.endpoint
  pub port : (p q : Owner) → Contains os p → Contains ps q →
      p.endpoint ≡ q.endpoint → p.external ≡ q.external

pub record HasRoomForMap (t : Table) (l : MapLease) : Type 0 where
  pub apart : AllByRecursion (λ x. AreApart x l) t.maps
  pub agree : Agree (owners t) (map_owners l)
  pub room : length t.maps + length t.peers < MOST_LEASES

pub record HasRoomForPeer (t : Table) (l : PeerLease) : Type 0 where
  pub few : count_by (λ x. names x l.endpoint) t.peers < MOST_PEERS
  pub agree : Agree (owners t) (peer_owner l ∷ [])
  pub room : length t.maps + length t.peers < MOST_LEASES

-- where the change is a new lease, the table has room for it
abbrev pub HasRoom : Table → Change → Type 0
HasRoom t (Map l) = IfNone (find (is_map_of (first_endpoint l)) t.maps) (HasRoomForMap t l)
HasRoom t (Peer l) = IfNone (find (is_peer_of l.endpoint l.remote l.remote_port) t.peers) (HasRoomForPeer t l)
HasRoom t change = ⊤

-- what a record needs to come after those of a sound state: what `Fits` asks, with room in place of soundness
pub record Suits (s : State) (r : Record) : Type 0 where
  pub formed : IsWellFormedRecord r
  pub first : is_start r.change ≡ not s.started
  pub later : s.last ≤ r.moment
  pub allowed : IsAllowed (live s.table r.moment) r.change
  pub rested : IsRested s r.moment r.change
  pub room : HasRoom (live s.table r.moment) r.change

-- whatever leases there are
pub record IsNext (s : State) (r : Record) : Type 0 where
  pub formed : IsWellFormedRecord r
  pub first : is_start r.change ≡ not s.started
  pub later : s.last ≤ r.moment

-- whatever ends there are
pub record SuitsTable (s : State) (r : Record) : Type 0 where
  pub next : IsNext s r
  pub allowed : IsAllowed (live s.table r.moment) r.change
  pub room : HasRoom (live s.table r.moment) r.change

-- the same in the first format: what `FitsFirst` asks, with room in place of soundness
pub record SuitsFirst (s : State) (r : Record) : Type 0 where
  pub of_first : IsOfFirst r.change
  pub table : SuitsTable s r
