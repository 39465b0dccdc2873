-- Records that can be written to a journal (our own).
use Rattle.std.specs.Prelude.{ℕ, ◌+◌, ◌^◌, ◌<◌, ◌≤◌, ⊤}
use Rattle.pcp_base.specs.declared.leases.TheConstants.{REST_SECONDS}
use Rattle.pcp_base.specs.declared.leases.End.{End}
use Rattle.pcp_base.specs.declared.records.Change.{Change}
use Rattle.pcp_base.specs.declared.records.Change.TheVariants.{Map, Peer, DropMap, DropPeer, Rest}
use Rattle.pcp_base.specs.declared.records.Record.{Record}
use Rattle.pcp_base.specs.Tables.{IsMapLease, IsPeerLease}

-- a lease that was granted then and expires then, was granted by m, and is live at m
pub record IsTermAt (m granted expiry : ℕ) : Type 0 where
  pub come : granted ≤ m
  pub live : m < expiry
  pub near : expiry < 2 ^ 41

-- its port ended by m, and may rest at m
pub record IsEndAt (m : ℕ) (e : End) : Type 0 where
  pub internal : 0 < e.endpoint.port
  pub external : 0 < e.external
  pub ended : e.end ≤ m
  pub recent : m < e.end + REST_SECONDS

-- what a record of the moment m may change
abbrev pub IsWellFormedChange : ℕ → Change → Type 0
IsWellFormedChange m (Map l) = IsMapLease l × IsTermAt m l.granted l.expiry
IsWellFormedChange m (Peer l) = IsPeerLease l × IsTermAt m l.granted l.expiry
IsWellFormedChange m (DropMap e) = 0 < e.port
IsWellFormedChange m (DropPeer e remote port) = (0 < e.port) × (0 < port)
IsWellFormedChange m (Rest e port end) = IsEndAt m (record { endpoint = e; external = port; end = end })
IsWellFormedChange m change = ⊤

pub record IsWellFormedRecord (r : Record) : Type 0 where
  pub moment : r.moment < 2 ^ 40
  pub change : IsWellFormedChange r.moment r.change
