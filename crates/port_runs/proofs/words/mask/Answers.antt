use Rattle.port_runs.proofs.WordBits.{mask_is}
use Rattle.port_runs.proofs.words.mask.Goals as goal

pub returns : goal.returns
returns c = mask_is c.args.low c.args.high c.requires.ordered c.requires.within
