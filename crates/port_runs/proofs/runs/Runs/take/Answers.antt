use Rattle.port_runs.proofs.ShownFlags.{takes_run, takes_none}
use Rattle.port_runs.proofs.runs.Runs.take.Goals as goal

pub returns-then-run_at-n : goal.returns-then-run_at-n
returns-then-run_at-n c =
    let a = c.self.inside in
    takes_none a.low a.high a.tree c.self.invariant c.args.self.now c.self.view_is c.args.start c.args.n c.requires.low c.requires.high c.run_at.result c.if-run_at-n.true (c.run_at.ensures.stops c.if-run_at-n.true)

pub returns : goal.returns
returns c =
    let a = c.self.inside in
    takes_run a.low a.high a.tree c.self.invariant c.args.self.now c.self.view_is c.args.start c.args.n c.requires.low c.requires.high c.run_at.result c.if-run_at-n.false c.run_at.ensures.free c.mark.new.self c.mark.ensures
