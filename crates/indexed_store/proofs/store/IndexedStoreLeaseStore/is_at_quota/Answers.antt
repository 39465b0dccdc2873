use Rattle.std.proofs.Common.{◌≤◌, ◌+◌, true, sym, subst}
use Rattle.indexed_store.specs.declared.store.IndexedStore.TheInside.{Inside}
use Rattle.indexed_store.specs.Indexed.{Indexed, IsIndexed}
use Rattle.indexed_store.specs.Looks.{pick_steps}
use Rattle.indexed_store.proofs.KeptStates.{picked-indexed}
use Rattle.indexed_store.proofs.PickSteps.{quota-within}
use Rattle.indexed_store.proofs.store.IndexedStoreLeaseStore.is_at_quota.Goals as goal

pub invariant_of-self : goal.invariant_of-self
invariant_of-self g c =
    let i = c.self-inside.inside.0.0 in
    picked-indexed i.leases i.ports c.is_at_quota.new.self i.base i.address i.last i.started c.self-inside.inside.0.1.0 c.self-inside.inside.0.1.1.0 c.is_at_quota.ensures.moved
    (subst (λ (x : Inside). IsIndexed x.state x.reached x.terms) (sym c.self-inside.view_is) c.self.invariant)

pub returns-clause-steps : goal.returns-clause-steps
returns-clause-steps g c =
    let v = c.self-inside.inside.0.0.ports in let who = c.args.who.now in
    let indexed = subst (λ (x : Inside). IsIndexed x.state x.reached x.terms) (sym c.self-inside.view_is) c.self.invariant in
    subst (λ (x : Indexed). c.is_at_quota.new.steps ≤ c.args.steps.now + pick_steps x.kept.ports x.reached who true) c.self.view_is
    (subst (λ (x : Inside). c.is_at_quota.new.steps ≤ c.args.steps.now + pick_steps x.state.ports x.reached who true) c.self-inside.view_is
    (quota-within v c.self-inside.inside.0.1.0 who c.args.steps.now c.is_at_quota.new.steps indexed.now c.is_at_quota.ensures.plain c.is_at_quota.ensures.steps))
