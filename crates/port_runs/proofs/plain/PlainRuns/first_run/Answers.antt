use Rattle.port_runs.proofs.ShownFlags.{least-seen}
use Rattle.port_runs.proofs.plain.PlainRuns.first_run.Goals as goal

pub returns : goal.returns
returns c =
    let a = c.self.inside in
    least-seen a.low a.high a.free.items c.self.invariant c.args.self.now c.self.view_is c.deref.result.now c.deref.ensures.value c.args.n c.args.parity c.first_run.result c.first_run.ensures
