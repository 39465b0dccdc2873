-- When requests are served.
use Rattle.std.specs.Prelude.{◌≡◌, true}
use Rattle.pcp_base.specs.States.{State}
use Rattle.pcp_base.specs.Reached.{IsReached}
use Rattle.lease_store.specs.declared.terms.Terms.{Terms}
use Rattle.lease_store.specs.LeaseTerms.{AreTerms}

-- a state that fitting records made, the first of them a Start, and terms of a configuration
pub record MayServe (s : State) (terms : Terms) : Type 0 where
  pub reached : IsReached s
  pub started : s.started ≡ true
  pub allowed : AreTerms terms
