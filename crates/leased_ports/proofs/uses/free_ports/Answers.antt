use Rattle.external_pool.specs.declared.uses.Use.TheVariants.{Free}
use Rattle.leased_ports.proofs.UseLemmas.{gives-with_use}
use Rattle.leased_ports.proofs.uses.free_ports.Goals as goal

pub returns-then-eq : goal.returns-then-eq
returns-then-eq c =
    let r = c.args.run.now in
    gives-with_use c.args.pool.now c.release.new.self r.value.endpoint.protocol r.value.external r.count Free c.requires.set.within c.release.ensures

pub returns-then-eq-2 : goal.returns-then-eq-2
returns-then-eq-2 c =
    let r = c.args.run.now in
    gives-with_use c.args.pool.now c.wake_run.new.self r.value.endpoint.protocol r.value.external r.count Free c.requires.set.within c.wake_run.ensures
