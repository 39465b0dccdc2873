use Rattle.std.proofs.Common.{rules}
use Rattle.clap.specs.Words.{app_of}
use Rattle.client_commands.specs.Commands.{IsAnnounceIn}
use Rattle.client_commands.specs.Options.{announce_app}
use Rattle.client_commands.proofs.CommandLemmas.{taken_none, taken_some}
use Rattle.client_commands.proofs.commands.announce_of.Goals as goal

pub returns-in-Some : goal.returns-in-Some
returns-in-Some c = taken_some announce_app IsAnnounceIn _ (app_of c.in_ok-command.command) c.in_ok-found.found c.in-Some.matches c.announce_in.result c.in_ok-command.ensures c.in_ok-found.ensures (search rules) c.announce_in.ensures

pub returns-in-None : goal.returns-in-None
returns-in-None c = taken_none announce_app IsAnnounceIn _ (app_of c.in_ok-command.command) c.in_ok-found.found c.in_ok-command.ensures c.in_ok-found.ensures (search rules)
