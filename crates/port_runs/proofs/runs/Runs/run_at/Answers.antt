use Rattle.std.proofs.Common.{refl}
use Rattle.port_runs.proofs.ShownFlags.{count-seen}
use Rattle.port_runs.proofs.runs.Runs.run_at.Goals as goal

pub returns : goal.returns
returns c =
    let a = c.self.inside in
    count-seen a.low a.high a.tree c.self.invariant c.args.self.now c.self.view_is a.tree refl c.args.start c.args.most c.run_at.result c.run_at.ensures
