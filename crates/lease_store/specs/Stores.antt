-- What a store stands for (our own).
use Rattle.std.specs.Prelude.{ℕ, ◌≤◌}
use Rattle.pcp_base.specs.States.{State}
use Rattle.lease_store.specs.declared.terms.Terms.{Terms}
use Rattle.lease_store.specs.LeaseTerms.{AreTerms}

pub record Stored : Type 0 where
  pub state : State
  -- the moment that is reached
  pub reached : ℕ
  pub terms : Terms

pub record IsStored (s : Stored) : Type 0 where
  pub allowed : AreTerms s.terms
  pub passed : s.state.last ≤ s.reached
