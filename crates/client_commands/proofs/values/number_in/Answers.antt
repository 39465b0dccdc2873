use Rattle.std.proofs.Common.{rules}
use Rattle.client_commands.proofs.CommandLemmas.{number_found, number_low}
use Rattle.client_commands.proofs.values.number_in.Goals as goal

pub returns-then-number-low : goal.returns-then-number-low
returns-then-number-low c = number_low c.args.low c.args.high c.args.text.now c.in_ok-number.number (search rules) (search rules) (search rules) (search rules)

pub returns : goal.returns
returns c = number_found c.args.low c.args.high c.args.text.now c.in_ok-number.number (search rules) (search rules) (search rules) (search rules)
