use Rattle.std.proofs.Common.{refl}
use Rattle.port_runs.proofs.ShownFlags.{least-seen}
use Rattle.port_runs.proofs.Steps.{few_steps, some_steps}
use Rattle.port_runs.proofs.runs.Runs.first_run.Goals as goal

pub returns-clause-found : goal.returns-clause-found
returns-clause-found g c =
    let a = c.self.inside in
    least-seen a.low a.high a.tree c.self.invariant c.args.self.now c.self.view_is a.tree refl c.args.n c.args.parity c.first_run.result c.first_run.ensures.found

pub returns-clause-cost : goal.returns-clause-cost
returns-clause-cost g c = few_steps c.args.steps.now c.first_run.new.steps c.first_run.result c.first_run.ensures.none c.first_run.ensures.some

pub returns-clause-some : goal.returns-clause-some
returns-clause-some g c = some_steps c.args.steps.now c.first_run.new.steps c.first_run.result c.first_run.ensures.some
