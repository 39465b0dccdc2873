use Rattle.std.proofs.Common.{◌∙◌, ap, sym, Some}
use Rattle.lease_store.specs.declared.terms.Terms.{Terms}
use Rattle.lease_core.specs.Chosen.{chosen_by}
use Rattle.lease_core.proofs.MapSteps.{chosen_at}
use Rattle.lease_core.proofs.mapping.choose.Goals as goal

pub returns-in-Some-clause-ports : goal.returns-in-Some-clause-ports
returns-in-Some-clause-ports g c =
    let terms = g.S.LeaseStore.terms c.args.store.now in let s = g.S.LeaseStore.state c.args.store.now in
    c.judge_named.ensures s c.args.m
    ∙ ap (λ (t : Terms). chosen_by (Some c.in-Some.port) t s c.args.m c.args.ask.now) c.terms.ensures.value
    ∙ chosen_at terms s (g.S.LeaseStore.reached c.args.store.now) c.args.m c.args.ask.now (Some c.in-Some.port)
    c.requires.reached (sym c.in-Some.is ∙ c.named_port.ensures.port)
