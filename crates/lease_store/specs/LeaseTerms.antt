-- The terms on which the ports of an external address are leased (our own).
use Rattle.std.specs.Prelude.{◌<◌, ◌≤◌}
use Rattle.pcp_base.specs.declared.configs.TheConstants.{MOST_QUOTA, LONGEST_LIFETIME}
use Rattle.pcp_base.specs.declared.configs.External.{External}
use Rattle.pcp_base.specs.declared.configs.Config.{Config}
use Rattle.pcp_base.specs.Configs.{IsExternal}
use Rattle.lease_store.specs.declared.terms.Terms.{Terms}

-- terms that a configuration may give
pub record AreTerms (terms : Terms) : Type 0 where
  pub external : IsExternal terms.external
  pub quota : (0 < terms.quota) × (terms.quota ≤ MOST_QUOTA)
  pub lifetime_min : 0 < terms.lifetime_min
  pub lifetimes : terms.lifetime_min ≤ terms.lifetime_max
  pub lifetime_max : terms.lifetime_max ≤ LONGEST_LIFETIME

-- the terms of this external address under the configuration
abbrev pub terms_of : External → Config → Terms
terms_of external config = record {
  external = external;
  quota = config.quota;
  lifetime_min = config.lifetime_min;
  lifetime_max = config.lifetime_max;
}
