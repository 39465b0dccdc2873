use Rattle.std.proofs.Common.{◌∙◌, ap, sym, Some, None}
use Rattle.lease_store.specs.declared.terms.Terms.{Terms}
use Rattle.lease_core.specs.DecideMap.{covered}
use Rattle.lease_core.proofs.MapSteps.{decided_by}
use Rattle.lease_core.proofs.RoomLemmas.{own_port-fits}
use Rattle.lease_core.proofs.mapping.decide_held.Goals as goal

pub decide_covered-requires-clause-within : goal.decide_covered-requires-clause-within
decide_covered-requires-clause-within g c =
    own_port-fits (g.S.LeaseStore.state c.args.store.now) (g.S.LeaseStore.reached c.args.store.now) c.args.ask.now.endpoint
    c.in-Some.lease c.requires.sound (sym c.covering.ensures.lease ∙ c.in-Some.is)

pub returns-clause-decided : goal.returns-clause-decided
returns-clause-decided g c =
    let terms = g.S.LeaseStore.terms c.args.store.now in let s = g.S.LeaseStore.state c.args.store.now in
    c.decide_covered.ensures
    ∙ ap (λ (t : Terms). covered t c.args.m c.args.ask.now c.in-Some.lease) c.terms.ensures.value
    ∙ decided_by terms s (g.S.LeaseStore.reached c.args.store.now) c.args.m c.args.ask.now (Some c.in-Some.lease)
    c.requires.reached (sym c.in-Some.is ∙ c.covering.ensures.lease)
