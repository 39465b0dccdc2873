use Rattle.port_runs.proofs.WordBits.{suffix_is}
use Rattle.port_runs.proofs.words.suffix_of.Goals as goal

pub returns : goal.returns
returns c = suffix_is c.args.word c.leading_ones.result c.ranges.word.fits c.leading_ones.ensures
