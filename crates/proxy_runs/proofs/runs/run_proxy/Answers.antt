use Rattle.std.proofs.Common.{refl, ap, ◌∙◌, rules}
use Rattle.proxy_commands.proofs.ProxyLemmas.{none_said}
use Rattle.relay_rates.specs.Rates.{rated, rated_begin}
use Rattle.relay_words.specs.Relaying.{IsProxy}
use Rattle.proxy_runs.specs.Proxying.{proxying, relay_of}
use Rattle.proxy_runs.proofs.RunLemmas.{runs_found}
use Rattle.proxy_runs.proofs.runs.run_proxy.Goals as goal

pub returns-in_default-found-clause-run : goal.returns-in_default-found-clause-run
returns-in_default-found-clause-run g c = (none_said (IsProxy _ _) c.in-Ok.found (search rules) c.in-Ok.ensures, refl)

pub returns-in_default-found-clause-complete : goal.returns-in_default-found-clause-complete
returns-in_default-found-clause-complete g c = λ ask is calm. absurd (none_said (IsProxy _ _) c.in-Ok.found (search rules) c.in-Ok.ensures ask is)

pub returns-clause-run : goal.returns-clause-run
returns-clause-run g c =
    runs_found (IsProxy _ _) (rated proxying) (λ ask. ask.command.server) relay_of _ _ c.in-Ok.found c.in-Some.field-0 c.of-machine.result c.run_relay-status.result _ _ c.in-Some.is c.in-Ok.ensures
    (c.of-machine.ensures ∙ ap (rated_begin c.in-Some.field-0.more.rate) (c.of.ensures ∙ c.in-Ok-new.ensures)) c.run_relay-status.ensures
