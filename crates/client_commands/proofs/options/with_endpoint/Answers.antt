use Rattle.std.proofs.Common.{◌≡◌, subst, codes, true, IfOk}
use Rattle.clap.specs.Words.{App, app_of, with_rule}
use Rattle.client_commands.specs.Options.{option_rule}
use Rattle.client_commands.proofs.options.with_endpoint.Goals as goal

pub returns : goal.returns
returns c = subst (λ (a : App). IfOk c.with_needed-2.result (λ r. app_of r ≡ with_rule a (option_rule true (codes "port")))) c.in_ok-command.ensures c.with_needed-2.ensures
