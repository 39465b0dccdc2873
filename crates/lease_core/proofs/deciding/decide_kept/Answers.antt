use Rattle.std.proofs.Common.{◌∙◌, ap}
use Rattle.pcp_base.specs.States.{State}
use Rattle.lease_store.specs.declared.terms.Terms.{Terms}
use Rattle.lease_core.specs.Decide.{decide}
use Rattle.lease_core.proofs.StepLemmas.{reach-decides}
use Rattle.lease_core.proofs.deciding.decide_kept.Goals as goal

pub returns-clause-decided : goal.returns-clause-decided
returns-clause-decided g c =
    c.decide_reached.ensures.decided
    ∙ ap (λ (t : Terms). decide t (g.S.LeaseStore.state c.reach.new.self) c.args.m c.args.ask.now) c.reach.ensures.terms
    ∙ ap (λ (s : State). decide (g.S.LeaseStore.terms c.args.store.now) s c.args.m c.args.ask.now) c.reach.ensures.state

pub returns-clause-steps : goal.returns-clause-steps
returns-clause-steps g c =
    reach-decides g.S.LeaseStore.look_steps (g.S.LeaseStore.pick_steps c.reach.new.self c.args.m)
    (g.S.LeaseStore.pick_steps c.args.store.now c.args.m) (g.S.LeaseStore.state c.args.store.now)
    (g.S.LeaseStore.state c.reach.new.self) c.args.m c.args.ask.now c.args.steps.now g.S.LeaseStore.reach_steps
    c.reach.new.steps c.decide_reached.new.steps c.reach.ensures.state c.reach.ensures.picks c.reach.ensures.steps
    c.decide_reached.ensures.steps
