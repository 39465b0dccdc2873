use Rattle.port_runs.proofs.ShownFlags.{count-seen}
use Rattle.port_runs.proofs.plain.PlainRuns.run_at.Goals as goal

pub returns : goal.returns
returns c =
    let a = c.self.inside in
    count-seen a.low a.high a.free.items c.self.invariant c.args.self.now c.self.view_is c.deref.result.now c.deref.ensures.value c.args.start c.args.most c.run_at.result c.run_at.ensures
