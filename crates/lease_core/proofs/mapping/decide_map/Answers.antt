use Rattle.std.proofs.Common.{◌≡◌, Option, Some, None, is_some, false, refl, ◌∙◌, sym}
use Rattle.pcp_base.specs.declared.leases.MapLease.{MapLease}
use Rattle.lease_store.specs.Lookups.{covering}
use Rattle.lease_core.proofs.MapSteps.{decided_by}
use Rattle.lease_core.proofs.mapping.decide_map.Goals as goal

none-there : (found : Option MapLease) → is_some found ≡ false → None ≡ found
none-there None h = refl
none-there (Some l) h = absurd cc

pub returns-clause-decided : goal.returns-clause-decided
returns-clause-decided g c =
    let terms = g.S.LeaseStore.terms c.args.store.now in let s = g.S.LeaseStore.state c.args.store.now in
    c.decide_uncovered.ensures.decided
    ∙ decided_by terms s (g.S.LeaseStore.reached c.args.store.now) c.args.m c.args.ask.now None
    c.requires.reached (none-there (covering s.table (g.S.LeaseStore.reached c.args.store.now) c.args.ask.now.endpoint) (sym c.is_covered.ensures.covered ∙ c.if-is_covered.false))
