use Rattle.std.proofs.Common.{refl}
use Rattle.port_runs.proofs.ShownFlags.{longest-seen}
use Rattle.port_runs.proofs.runs.Runs.longest_run.Goals as goal

pub returns-clause-longest : goal.returns-clause-longest
returns-clause-longest g c =
    let a = c.self.inside in
    longest-seen a.low a.high a.tree c.self.invariant c.args.self.now c.self.view_is a.tree refl c.args.parity c.longest_run.result c.longest_run.ensures.longest
