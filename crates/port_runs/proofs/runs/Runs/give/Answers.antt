use Rattle.port_runs.proofs.ShownFlags.{gives_run}
use Rattle.port_runs.proofs.runs.Runs.give.Goals as goal

pub returns : goal.returns
returns c =
    let a = c.self.inside in
    gives_run a.low a.high a.tree c.self.invariant c.args.self.now c.self.view_is c.args.start c.args.n c.requires.low c.requires.high c.mark.new.self c.mark.ensures
