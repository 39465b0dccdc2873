use Rattle.std.proofs.Common.{◌≡◌, subst, codes, false, IfOk, ap, ◌∙◌}
use Rattle.clap.specs.Words.{App, app_of, with_rule}
use Rattle.client_commands.specs.Options.{flag_rule, option_rule}
use Rattle.client_commands.proofs.options.with_ports.Goals as goal

pub returns : goal.returns
returns c =
    subst (λ (a : App). IfOk c.with_flag.result (λ r. app_of r ≡ with_rule a (flag_rule (codes "prefer-failure"))))
    (c.in_ok-command-2.ensures ∙ ap (λ (a : App). with_rule a (option_rule false (codes "size"))) c.in_ok-command.ensures) c.with_flag.ensures
