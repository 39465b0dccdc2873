use Rattle.std.specs.Prelude.{◌≢◌, ◌↔◌}
use Rattle.std.proofs.Common.{IsTrue, subst, rules}
use Rattle.std.proofs.lemmas.Bool.{OnTrue_from}
use Rattle.external_pool.specs.Choosing.{GoesBack}
use Rattle.leased_ports.specs.Leased.{Leased}
use Rattle.leased_ports.specs.Plain.{uses_now}
use Rattle.leased_ports.proofs.BackLemmas.{back-told, back-not}
use Rattle.leased_ports.proofs.ports.LeasedPorts.goes_back.Goals as goal

pub goes_back-requires : goal.goes_back-requires
goes_back-requires g c = c.self.invariant.in_step.scheduled.set

pub returns-clause-some : goal.returns-clause-some
returns-clause-some g c = OnTrue_from _ (c.args.ask.now.suggested ≢ 0) (λ t. search rules)

pub returns-clause-back : goal.returns-clause-back
returns-clause-back g c =
    let e = c.args.endpoint.now in let ask = c.args.ask.now in
    back-told c.goes_back.result _ (subst (λ (v : Leased). IsTrue c.goes_back.result ↔ GoesBack (uses_now v e.protocol) e.address e.port ask.parity ask.suggested c.args.n) c.self.view_is c.goes_back.ensures.back)

pub returns-clause-other : goal.returns-clause-other
returns-clause-other g c =
    let e = c.args.endpoint.now in let ask = c.args.ask.now in
    back-not c.goes_back.result _ _ (subst (λ (v : Leased). IsTrue c.goes_back.result ↔ GoesBack (uses_now v e.protocol) e.address e.port ask.parity ask.suggested c.args.n) c.self.view_is c.goes_back.ensures.back)
