use Rattle.std.proofs.Common.{ℕ, ◌+◌, ◌≤◌, true, subst}
use Rattle.lease_core.proofs.peering.pick_port.Goals as goal

pub returns-in-Ok-clause-steps : goal.returns-in-Ok-clause-steps
returns-in-Ok-clause-steps g c =
    subst (λ (n : ℕ). c.pick.new.steps ≤ c.args.steps.now
    + g.S.LeaseStore.pick_steps c.args.store.now n c.args.ask.now.endpoint.address true + 1)
    c.requires.reached c.pick.ensures.steps

pub returns-in-Err-clause-steps : goal.returns-in-Err-clause-steps
returns-in-Err-clause-steps g c =
    subst (λ (n : ℕ). c.pick.new.steps ≤ c.args.steps.now
    + g.S.LeaseStore.pick_steps c.args.store.now n c.args.ask.now.endpoint.address true + 1)
    c.requires.reached c.pick.ensures.steps
