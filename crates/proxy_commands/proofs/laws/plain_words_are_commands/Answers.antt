use Rattle.proxy_commands.proofs.PlainLemmas.{plain_is_cascade, plain_is_command}
use Rattle.proxy_commands.proofs.laws.plain_words_are_commands.Goals as goal

pub returns-clause-proxy : goal.returns-clause-proxy
returns-clause-proxy c = plain_is_command

pub returns-clause-cascade : goal.returns-clause-cascade
returns-clause-cascade c = plain_is_cascade
