use Rattle.std.proofs.Common.{◌≤◌, ◌+◌, sym, subst}
use Rattle.leased_ports.specs.Plain.{is_plain}
use Rattle.indexed_store.specs.declared.store.IndexedStore.TheInside.{Inside}
use Rattle.indexed_store.specs.Indexed.{Indexed, IsIndexed}
use Rattle.indexed_store.specs.Looks.{pick_steps}
use Rattle.indexed_store.proofs.KeptStates.{picked-indexed}
use Rattle.indexed_store.proofs.PickSteps.{pick-within}
use Rattle.indexed_store.proofs.store.IndexedStoreLeaseStore.pick.Goals as goal

pub invariant_of-self : goal.invariant_of-self
invariant_of-self g c =
    let i = c.self-inside.inside.0.0 in
    picked-indexed i.leases i.ports c.pick.new.self i.base i.address i.last i.started c.self-inside.inside.0.1.0 c.self-inside.inside.0.1.1.0 c.pick.ensures.moved
    (subst (λ (x : Inside). IsIndexed x.state x.reached x.terms) (sym c.self-inside.view_is) c.self.invariant)

pub returns-clause-steps : goal.returns-clause-steps
returns-clause-steps g c =
    let v = c.self-inside.inside.0.0.ports in let who = c.args.endpoint.now.address in let plain = is_plain c.args.ask.now in
    let indexed = subst (λ (x : Inside). IsIndexed x.state x.reached x.terms) (sym c.self-inside.view_is) c.self.invariant in
    subst (λ (x : Indexed). c.pick.new.steps ≤ c.args.steps.now + pick_steps x.kept.ports x.reached who plain + c.args.ask.now.room) c.self.view_is
    (subst (λ (x : Inside). c.pick.new.steps ≤ c.args.steps.now + pick_steps x.state.ports x.reached who plain + c.args.ask.now.room) c.self-inside.view_is
    (pick-within v c.self-inside.inside.0.1.0 who plain c.args.steps.now c.pick.new.steps c.args.ask.now.room indexed.now c.pick.ensures.plain c.pick.ensures.steps))
