use Rattle.std.proofs.Common.{codes, rules}
use Rattle.std.proofs.lemmas.Result.{IfOk-weaker}
use Rattle.proxy_commands.specs.Commands.{IsCascadeIn, cascade_app}
use Rattle.proxy_commands.proofs.ProxyLemmas.{named_so, not_named}
use Rattle.proxy_commands.proofs.commands.cascade_command_of.Goals as goal

pub returns-then-first_is : goal.returns-then-first_is
returns-then-first_is c = IfOk-weaker c.cascade_of.result _ _ (λ read h. named_so cascade_app IsCascadeIn _ (codes "cascade") read (search rules) h) c.cascade_of.ensures

pub returns : goal.returns
returns c = not_named cascade_app IsCascadeIn _ (codes "cascade") (search rules)
