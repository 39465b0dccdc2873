use Rattle.std.proofs.Common.{rules}
use Rattle.clap.specs.Words.{app_of}
use Rattle.client_commands.specs.Commands.{IsMapIn}
use Rattle.client_commands.specs.Options.{map_app}
use Rattle.client_commands.proofs.CommandLemmas.{taken_none, taken_some}
use Rattle.client_commands.proofs.commands.map_of.Goals as goal

pub returns-in-Some : goal.returns-in-Some
returns-in-Some c = taken_some map_app IsMapIn _ (app_of c.in_ok-command.command) c.in_ok-found.found c.in-Some.matches c.map_in.result c.in_ok-command.ensures c.in_ok-found.ensures (search rules) c.map_in.ensures

pub returns-in-None : goal.returns-in-None
returns-in-None c = taken_none map_app IsMapIn _ (app_of c.in_ok-command.command) c.in_ok-found.found c.in_ok-command.ensures c.in_ok-found.ensures (search rules)
