use Rattle.std.proofs.Common.{◌∙◌, ap, sym, Some, None}
use Rattle.lease_store.specs.declared.terms.Terms.{Terms}
use Rattle.lease_core.specs.DecidePeer.{known}
use Rattle.lease_core.proofs.PeerSteps.{peer_decided_by}
use Rattle.lease_core.proofs.peering.decide_peer.Goals as goal

pub returns-in-Some-clause-decided : goal.returns-in-Some-clause-decided
returns-in-Some-clause-decided g c =
    let terms = g.S.LeaseStore.terms c.args.store.now in let s = g.S.LeaseStore.state c.args.store.now in
    c.decide_known.ensures
    ∙ ap (λ (t : Terms). known t c.args.m c.args.ask.now c.in-Some.lease) c.terms.ensures.value
    ∙ peer_decided_by terms s (g.S.LeaseStore.reached c.args.store.now) c.args.m c.args.ask.now (Some c.in-Some.lease)
    c.requires.reached (sym c.in-Some.is ∙ c.peering.ensures.lease)

pub returns-in-None-clause-decided : goal.returns-in-None-clause-decided
returns-in-None-clause-decided g c =
    let terms = g.S.LeaseStore.terms c.args.store.now in let s = g.S.LeaseStore.state c.args.store.now in
    c.decide_unknown.ensures.decided
    ∙ peer_decided_by terms s (g.S.LeaseStore.reached c.args.store.now) c.args.m c.args.ask.now None
    c.requires.reached (sym c.in-None.is ∙ c.peering.ensures.lease)
