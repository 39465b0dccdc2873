use Rattle.std.proofs.Common.{◌≡◌, subst, codes, false, IfOk, ap, ◌∙◌}
use Rattle.clap.specs.Words.{App, app_of, with_rule}
use Rattle.client_commands.specs.Options.{option_rule}
use Rattle.client_commands.proofs.options.with_wanted.Goals as goal

pub returns : goal.returns
returns c =
    subst (λ (a : App). IfOk c.with_option-2.result (λ r. app_of r ≡ with_rule a (option_rule false (codes "external-port"))))
    (c.in_ok-command-2.ensures ∙ ap (λ (a : App). with_rule a (option_rule false (codes "lifetime"))) c.in_ok-command.ensures) c.with_option-2.ensures
