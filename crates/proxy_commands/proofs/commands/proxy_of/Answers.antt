use Rattle.std.proofs.Common.{rules}
use Rattle.clap.specs.Words.{app_of}
use Rattle.proxy_commands.specs.Commands.{IsProxyIn, proxy_app}
use Rattle.proxy_commands.proofs.ProxyLemmas.{taken_none, taken_some}
use Rattle.proxy_commands.proofs.commands.proxy_of.Goals as goal

pub returns-in-Some : goal.returns-in-Some
returns-in-Some c = taken_some proxy_app IsProxyIn _ (app_of c.in_ok-command.command) c.in_ok-found.found c.in-Some.matches c.proxy_in.result c.in_ok-command.ensures c.in_ok-found.ensures (search rules) c.proxy_in.ensures

pub returns-in-None : goal.returns-in-None
returns-in-None c = taken_none proxy_app IsProxyIn _ (app_of c.in_ok-command.command) c.in_ok-found.found c.in_ok-command.ensures c.in_ok-found.ensures (search rules)
