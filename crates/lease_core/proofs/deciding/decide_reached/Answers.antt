use Rattle.std.proofs.Common.{◌+◌, ◌*◌, ◌≤◌, subst, sym}
use Rattle.std.specs.Prelude.{if◌then◌else◌}
use Rattle.pcp_base.specs.declared.asks.Ask.{Ask}
use Rattle.lease_core.specs.Decide.{is_picked, looks_asked, picking}
use Rattle.lease_core.proofs.deciding.decide_reached.Goals as goal

pub returns-in-Map-clause-steps : goal.returns-in-Map-clause-steps
returns-in-Map-clause-steps g c =
    let s = g.S.LeaseStore.state c.args.store.now in
    subst (λ (ask : Ask). c.decide_map.new.steps ≤ c.args.steps.now + looks_asked ask * g.S.LeaseStore.look_steps s
    + (if is_picked s c.args.m ask
    then picking (g.S.LeaseStore.look_steps s) (g.S.LeaseStore.pick_steps c.args.store.now c.args.m) ask else 0))
    (sym c.in-Map.is) c.decide_map.ensures.steps

pub returns-in-Peer-clause-steps : goal.returns-in-Peer-clause-steps
returns-in-Peer-clause-steps g c =
    let s = g.S.LeaseStore.state c.args.store.now in
    subst (λ (ask : Ask). c.decide_peer.new.steps ≤ c.args.steps.now + looks_asked ask * g.S.LeaseStore.look_steps s
    + (if is_picked s c.args.m ask
    then picking (g.S.LeaseStore.look_steps s) (g.S.LeaseStore.pick_steps c.args.store.now c.args.m) ask else 0))
    (sym c.in-Peer.is) c.decide_peer.ensures.steps
