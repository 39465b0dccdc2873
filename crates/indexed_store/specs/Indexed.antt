-- What an indexed store is seen as, and what it keeps (our own).
use Rattle.std.specs.Prelude.{◌≡◌, ℕ, ◌≤◌}
use Rattle.indexed_store.specs.Tabled.{ArePast, AreTabled, TabledState}
use Rattle.pcp_base.specs.Tables.{live}
use Rattle.pcp_base.specs.Reached.{IsReached, IsReachedFirst}
use Rattle.lease_store.specs.declared.terms.Terms.{Terms}
use Rattle.lease_store.specs.LeaseTerms.{AreTerms}
use Rattle.leased_ports.specs.Leased.{IsPortsOf, IsOnTerms}

-- what the store is seen as
pub record Indexed : Type 0 where
  -- the state, with the tables and ports that have it
  pub kept : TabledState
  -- the moment that is reached
  pub reached : ℕ
  pub terms : Terms

-- records that fit have made the state, and no later moment is reached
pub record IsReplaying (s : Indexed) : Type 0 where
  pub reached : IsReached s.kept.state
  pub at_last : s.reached ≡ s.kept.state.last

-- the same in the first format
pub record IsReplayingFirst (s : Indexed) : Type 0 where
  pub reached : IsReachedFirst s.kept.state
  pub at_last : s.reached ≡ s.kept.state.last

-- the state has what is live of all leases at its last moment; from the moment on that the ports
-- reached, what is live of it is what is live of the leases that are looked up, and none that has
-- left is; and the ports are the state's
pub record IsKept (s : TabledState) : Type 0 where
  pub tabled : AreTabled s.leases
  pub table : s.state.table ≡ live s.all s.state.last
  pub live : (m : ℕ) → s.ports.reached ≤ m → live s.state.table m ≡ live s.leases m
  pub past : ArePast s.ports.reached s.past
  pub ports : IsPortsOf s.ports s.state

-- the ports reached that moment, on these terms
pub record IsIndexed (s : TabledState) (reached : ℕ) (terms : Terms) : Type 0 where
  pub allowed : AreTerms terms
  pub sound : IsReached s.state
  pub kept : IsKept s
  pub now : s.ports.reached ≡ reached
  pub on : IsOnTerms s.ports terms
