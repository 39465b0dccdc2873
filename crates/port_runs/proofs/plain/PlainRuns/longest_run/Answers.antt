use Rattle.port_runs.proofs.ShownFlags.{longest-seen}
use Rattle.port_runs.proofs.plain.PlainRuns.longest_run.Goals as goal

pub returns : goal.returns
returns c =
    let a = c.self.inside in
    longest-seen a.low a.high a.free.items c.self.invariant c.args.self.now c.self.view_is c.deref.result.now c.deref.ensures.value c.args.parity c.longest_run.result c.longest_run.ensures
