use Rattle.std.proofs.Common.{refl, ap, rules}
use Rattle.proxy_commands.proofs.ProxyLemmas.{none_said}
use Rattle.relay_rates.specs.Rates.{rated_begin}
use Rattle.relay_runs.specs.Ends.{Links}
use Rattle.relay_words.specs.Relaying.{IsCascade}
use Rattle.cascade_runs.specs.Cascading.{announcing_from}
use Rattle.cascade_runs.proofs.RunLemmas.{runs_found}
use Rattle.cascade_runs.proofs.runs.run_cascade.Goals as goal

pub returns-in_default-found-clause-run : goal.returns-in_default-found-clause-run
returns-in_default-found-clause-run g c = (none_said (IsCascade _ _) c.in-Ok.found (search rules) c.in-Ok.ensures, refl)

pub returns-in_default-found-clause-complete : goal.returns-in_default-found-clause-complete
returns-in_default-found-clause-complete g c = λ ask is calm. absurd (none_said (IsCascade _ _) c.in-Ok.found (search rules) c.in-Ok.ensures ask is)

pub returns-clause-run : goal.returns-clause-run
returns-clause-run g c =
    let begun : Links = record {
      outs = record {
        down = record { sent = g.O.Outbox.sent c.args.down.now; faults = g.O.Outbox.faults c.args.down.now };
        up = record { sent = g.O.Outbox.sent c.args.up.now; faults = g.O.Outbox.faults c.args.up.now };
      };
      left = g.I.Inbox.left c.args.from.now;
      faults = g.I.Inbox.faults c.args.from.now;
      times = g.T.Clock.times c.now-now_ms.new.self;
    } in
    runs_found _ _ c.in-Ok.found c.in-Some.field-0 c.now-now_ms.result _ c.run_begun.result _ begun _ c.in-Some.is c.in-Ok.ensures
    (record { told = c.now-now_ms.ensures.time; others = refl })
    (ap (λ cascade. rated_begin c.in-Some.field-0.more.rate (announcing_from c.now-now_ms.result cascade)) c.in-Ok-new.ensures) c.run_begun.ensures
