use Rattle.std.proofs.Common.{rules}
use Rattle.clap.specs.Words.{app_of}
use Rattle.proxy_commands.specs.Commands.{IsCascadeIn, cascade_app}
use Rattle.proxy_commands.proofs.ProxyLemmas.{taken_none, taken_some}
use Rattle.proxy_commands.proofs.commands.cascade_of.Goals as goal

pub returns-in-Some : goal.returns-in-Some
returns-in-Some c = taken_some cascade_app IsCascadeIn _ (app_of c.in_ok-command.command) c.in_ok-found.found c.in-Some.matches c.cascade_in.result c.in_ok-command.ensures c.in_ok-found.ensures (search rules) c.cascade_in.ensures

pub returns-in-None : goal.returns-in-None
returns-in-None c = taken_none cascade_app IsCascadeIn _ (app_of c.in_ok-command.command) c.in_ok-found.found c.in_ok-command.ensures c.in_ok-found.ensures (search rules)
