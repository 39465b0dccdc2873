use Rattle.external_pool.specs.declared.uses.Use.TheVariants.{Held}
use Rattle.leased_ports.proofs.UseLemmas.{gives-with_use}
use Rattle.leased_ports.proofs.uses.hold_ports.Goals as goal

pub returns-clause-ok : goal.returns-clause-ok
returns-clause-ok c =
    let r = c.args.run.now in
    gives-with_use c.args.pool.now c.hold.new.self r.value.endpoint.protocol r.value.external r.count (Held r.value.endpoint.address) c.requires.set.within c.in_ok-hold.ensures.ok
