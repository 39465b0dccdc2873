use Rattle.std.proofs.Common.{◌∙◌, sym}
use Rattle.lease_core.proofs.MapSteps.{chosen-few}
use Rattle.lease_core.proofs.mapping.grant_any.Goals as goal

pub grant_new-requires-clause-few : goal.grant_new-requires-clause-few
grant_new-requires-clause-few g c =
    chosen-few (g.S.LeaseStore.terms c.args.store.now) (g.S.LeaseStore.state c.args.store.now) c.args.m c.args.ask.now
    _ c.requires.ask (sym c.choose.ensures.ports ∙ c.in-Ok.is)
