use Rattle.std.proofs.Common.{codes, rules}
use Rattle.std.proofs.lemmas.Result.{IfOk-weaker}
use Rattle.proxy_commands.specs.Commands.{IsProxyIn, proxy_app}
use Rattle.proxy_commands.proofs.ProxyLemmas.{named_so, not_named}
use Rattle.proxy_commands.proofs.commands.command_of.Goals as goal

pub returns-then-first_is : goal.returns-then-first_is
returns-then-first_is c = IfOk-weaker c.proxy_of.result _ _ (λ read h. named_so proxy_app IsProxyIn _ (codes "proxy") read (search rules) h) c.proxy_of.ensures

pub returns : goal.returns
returns c = not_named proxy_app IsProxyIn _ (codes "proxy") (search rules)
