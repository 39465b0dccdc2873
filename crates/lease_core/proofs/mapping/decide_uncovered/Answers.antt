use Rattle.std.proofs.Common.{◌∙◌}
use Rattle.lease_store.specs.Lookups.{named_port}
use Rattle.lease_core.proofs.MapCases.{tabled}
use Rattle.lease_core.proofs.MapSteps.{not_zero}
use Rattle.lease_core.proofs.mapping.decide_uncovered.Goals as goal

pub returns-clause-decided : goal.returns-clause-decided
returns-clause-decided g c =
    let terms = g.S.LeaseStore.terms c.args.store.now in let s = g.S.LeaseStore.state c.args.store.now in
    c.grant.ensures.decided
    ∙ tabled terms s c.args.m c.args.ask.now (named_port s.table c.args.m c.args.ask.now.endpoint)
    (not_zero c.args.ask.now.lifetime c.if-ask-eq0.false)
