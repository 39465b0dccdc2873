use Rattle.pcp_options.proofs.GrammarLemmas.{successes-read}
use Rattle.pcp_options.proofs.WrittenLaws.{written-read}
use Rattle.pcp_options.proofs.laws.successes_are_read.Goals as goal

pub returns-clause-spelled : goal.returns-clause-spelled
returns-clause-spelled c = successes-read

pub returns-clause-written : goal.returns-clause-written
returns-clause-written c = written-read
