use Rattle.port_runs.proofs.WordBits.{run_by_calls}
use Rattle.port_runs.proofs.words.run_from.Goals as goal

pub returns : goal.returns
returns c = run_by_calls c.args.word c.args.place c.unbounded_shr.result c.trailing_ones.result c.ranges.word.fits c.requires c.unbounded_shr.ensures c.trailing_ones.ensures
