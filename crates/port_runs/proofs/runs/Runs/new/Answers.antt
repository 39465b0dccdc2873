use Rattle.port_runs.proofs.ShownFlags.{untaken_of_range, untaken_shown}
use Rattle.port_runs.proofs.runs.Runs.new.Goals as goal

pub invariant_of-result : goal.invariant_of-result
invariant_of-result c = untaken_of_range c.args.low c.args.high c.in_ok-tree.tree c.requires.some c.requires.ordered c.ranges.high.fits c.in_ok-tree.ensures

pub returns : goal.returns
returns c = untaken_shown c.args.low c.args.high c.in_ok-tree.tree c.requires.some c.requires.ordered c.ranges.high.fits c.in_ok-tree.ensures
