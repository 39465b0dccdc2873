use Rattle.std.proofs.Common.{rules}
use Rattle.client_commands.proofs.CommandLemmas.{number_found, number_low}
use Rattle.relay_words.proofs.more.read_rate.Goals as goal

pub returns-then-number-lt1 : goal.returns-then-number-lt1
returns-then-number-lt1 c = number_low 1 100000 c.args.text.now c.in_ok-number.number (search rules) (search rules) (search rules) (search rules)

pub returns : goal.returns
returns c = number_found 1 100000 c.args.text.now c.in_ok-number.number (search rules) (search rules) (search rules) (search rules)
