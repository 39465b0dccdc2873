use Rattle.port_runs.proofs.WordRuns.{word_summary}
use Rattle.port_runs.proofs.leaf.leaf.Goals as goal

pub returns : goal.returns
returns c =
    word_summary c.args.words.now c.args.index c.requires.index c.run_from-prefix.result c.suffix_of-suffix.result c.longest_in-even.result.0 c.longest_in-even.result.1 c.run_from-prefix.ensures c.suffix_of-suffix.ensures c.longest_in-even.ensures.even c.longest_in-even.ensures.odd
