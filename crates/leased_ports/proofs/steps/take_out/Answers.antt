use Rattle.std.proofs.Common.{sym, ap}
use Rattle.leased_ports.specs.declared.phases.Phase.{Phase}
use Rattle.leased_ports.specs.Kept.{phase_by, use_in}
use Rattle.leased_ports.proofs.UseLemmas.{used-as}
use Rattle.leased_ports.proofs.steps.take_out.Goals as goal

pub free_ports-requires-clause-used : goal.free_ports-requires-clause-used
free_ports-requires-clause-used c =
    let r = c.args.run.now in
    used-as c.args.pool.now r (use_in (phase_by c.args.wheel.now r) r.value) (use_in c.phase_of.result r.value) (ap (λ (p : Phase). use_in p r.value) (sym c.phase_of.ensures)) c.requires.used
