use Rattle.pcp_options.proofs.OptionLaws.{options-found, found-options, items-read}
use Rattle.pcp_options.proofs.laws.options_are_of_the_grammar.Goals as goal

pub returns-clause-found : goal.returns-clause-found
returns-clause-found c = options-found

pub returns-clause-spelled : goal.returns-clause-spelled
returns-clause-spelled c = found-options

pub returns-clause-again : goal.returns-clause-again
returns-clause-again c = items-read
