use Rattle.std.proofs.Common.{rules}
use Rattle.client_commands.proofs.CommandLemmas.{first_named}
use Rattle.proxy_commands.proofs.commands.first_is.Goals as goal

pub returns-in-Some : goal.returns-in-Some
returns-in-Some c = first_named _ c.args.words.now c.in-Some.first.now c.as_str.result.now c.args.name.now c.eq.result (search rules) (search rules) (search rules)
