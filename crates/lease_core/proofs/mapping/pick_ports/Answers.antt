use Rattle.std.proofs.Common.{subst, sym}
use Rattle.external_pool.specs.Calls.{IsAsk}
use Rattle.external_pool.specs.declared.asks.PickAsk.{PickAsk}
use Rattle.lease_core.proofs.RoomLemmas.{may_ask}
use Rattle.lease_core.proofs.StepLemmas.{pool-steps}
use Rattle.lease_core.proofs.mapping.pick_ports.Goals as goal

pub pick-requires-clause-ask : goal.pick-requires-clause-ask
pick-requires-clause-ask g c = subst (λ (a : PickAsk). IsAsk a) (sym c.pick_ask-port_ask.ensures.asks)
    (may_ask (g.S.LeaseStore.terms c.args.store.now) (g.S.LeaseStore.state c.args.store.now) c.args.m c.args.ask.now c.requires.ask)

pub returns-in-Ok-clause-steps : goal.returns-in-Ok-clause-steps
returns-in-Ok-clause-steps g c =
    pool-steps (g.S.LeaseStore.terms c.args.store.now) (g.S.LeaseStore.state c.args.store.now)
    (g.S.LeaseStore.reached c.args.store.now) c.args.m c.args.ask.now
    (λ n plain. g.S.LeaseStore.pick_steps c.args.store.now n c.args.ask.now.endpoint.address plain)
    (g.S.LeaseStore.look_steps (g.S.LeaseStore.state c.args.store.now)) _ _ _ _ c.requires.ask c.requires.reached
    (g.S.LeaseStore.picks_grow c.args.store.now c.args.m c.args.ask.now.endpoint.address)
    c.pick_ask-port_ask.ensures.asks c.pick_ask-port_ask.ensures.few c.pick_ask-port_ask.ensures.steps c.pick.ensures.steps

pub returns-in-Err-clause-steps : goal.returns-in-Err-clause-steps
returns-in-Err-clause-steps g c =
    pool-steps (g.S.LeaseStore.terms c.args.store.now) (g.S.LeaseStore.state c.args.store.now)
    (g.S.LeaseStore.reached c.args.store.now) c.args.m c.args.ask.now
    (λ n plain. g.S.LeaseStore.pick_steps c.args.store.now n c.args.ask.now.endpoint.address plain)
    (g.S.LeaseStore.look_steps (g.S.LeaseStore.state c.args.store.now)) _ _ _ _ c.requires.ask c.requires.reached
    (g.S.LeaseStore.picks_grow c.args.store.now c.args.m c.args.ask.now.endpoint.address)
    c.pick_ask-port_ask.ensures.asks c.pick_ask-port_ask.ensures.few c.pick_ask-port_ask.ensures.steps c.pick.ensures.steps
