use Rattle.std.proofs.Common.{Some, ap}
use Rattle.server_commands.specs.declared.commands.Command.TheVariants.{Play, Load}
use Rattle.server_commands.proofs.WordLemmas.{command_once}
use Rattle.server_commands.proofs.commands.command_of.Goals as goal

pub returns-in-Some-clause-only : goal.returns-in-Some-clause-only
returns-in-Some-clause-only c = λ command is. ap Some (command_once _ (Play c.in-Some.start) command c.in-Some.ensures.value is)

pub returns-in-Some-load_of-clause-only : goal.returns-in-Some-load_of-clause-only
returns-in-Some-load_of-clause-only c = λ command is. ap Some (command_once _ (Load c.in-Some-load_of.plan) command c.in-Some-load_of.ensures.value is)
