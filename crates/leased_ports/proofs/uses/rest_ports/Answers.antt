use Rattle.external_pool.specs.declared.uses.Use.TheVariants.{Resting}
use Rattle.leased_ports.proofs.UseLemmas.{gives-with_use}
use Rattle.leased_ports.proofs.uses.rest_ports.Goals as goal

pub returns-then-eq-2-clause-ok : goal.returns-then-eq-2-clause-ok
returns-then-eq-2-clause-ok c =
    let r = c.args.run.now in
    gives-with_use c.args.pool.now c.retire.new.self r.value.endpoint.protocol r.value.external r.count (Resting r.value.endpoint.address r.value.endpoint.port) c.requires.set.within c.retire.ensures

pub returns-clause-ok : goal.returns-clause-ok
returns-clause-ok c =
    let r = c.args.run.now in
    gives-with_use c.args.pool.now c.rest_run.new.self r.value.endpoint.protocol r.value.external r.count (Resting r.value.endpoint.address r.value.endpoint.port) c.requires.set.within c.rest_run.ensures.rests
