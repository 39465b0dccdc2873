-- Leases on their way out of a table (our own; for proofs alone).
use Rattle.std.specs.Prelude.{◌≡◌, ℕ, ◌⊎◌, List, Contains}
use Rattle.std.specs.List.{AllByRecursion}
use Rattle.pcp_base.specs.declared.leases.MapLease.{MapLease}
use Rattle.pcp_base.specs.declared.leases.PeerLease.{PeerLease}
use Rattle.pcp_base.specs.declared.leases.Owner.{Owner}
use Rattle.pcp_base.specs.Tables.{Table, live, dead}
use Rattle.pcp_base.specs.Owners.{owners}
use Rattle.indexed_store.specs.declared.owning.OwnerRun.{OwnerRun}
use Rattle.indexed_store.specs.Runs.{IsOwnerRun, map_run, owners_among, peer_run}

-- a MAP lease of these owns the ports of the run
pub record IsOfMaps (maps : List MapLease) (r : OwnerRun) : Type 0 where
  pub lease : MapLease
  pub there : Contains maps lease
  pub is : r ≡ map_run lease

-- the same of a PEER lease
pub record IsOfPeers (peers : List PeerLease) (r : OwnerRun) : Type 0 where
  pub lease : PeerLease
  pub there : Contains peers lease
  pub is : r ≡ peer_run lease

-- a lease of the table owns the ports of the run
abbrev pub IsOfLeases : Table → OwnerRun → Type 0
IsOfLeases t r = IsOfMaps t.maps r ⊎ IsOfPeers t.peers r

-- the runs are those of the leases of the table that aren't live at m
pub record AreOfDead (m : ℕ) (t : Table) (runs : List OwnerRun) : Type 0 where
  pub formed : AllByRecursion IsOwnerRun runs
  pub of_dead : AllByRecursion (IsOfLeases (dead t m)) runs
  pub all : (o : Owner) → Contains (owners (dead t m)) o → Contains (owners_among runs) o

-- the table has the live leases of that at the start, and the ports of those that it hasn't any
-- more are left
pub record AreLeaving (m : ℕ) (start t : Table) (left : List OwnerRun) : Type 0 where
  pub live_same : live t m ≡ live start m
  pub maps_from : (l : MapLease) → Contains t.maps l → Contains start.maps l
  pub peers_from : (l : PeerLease) → Contains t.peers l → Contains start.peers l
  pub formed : AllByRecursion IsOwnerRun left
  pub of_dead : AllByRecursion (IsOfLeases (dead start m)) left
  pub left_all : (o : Owner) → Contains (owners (dead start m)) o
      → Contains (owners_among left) o ⊎ Contains (owners (dead t m)) o
