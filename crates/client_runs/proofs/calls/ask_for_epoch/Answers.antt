use Rattle.std.proofs.Common.{[]}
use Rattle.client_runs.specs.Links.{Drawing, Links, Sending}
use Rattle.client_runs.proofs.CallLemmas.{announces_by, opened}
use Rattle.client_runs.proofs.LinkLemmas.{drawn-none}
use Rattle.client_runs.proofs.calls.ask_for_epoch.Goals as goal

pub returns : goal.returns
returns g c =
    let d : Drawing = record { words = g.E.Entropy.words c.args.entropy.now; faults = g.E.Entropy.faults c.args.entropy.now } in
    let o : Sending = record { sent = g.O.Outbox.sent c.args.up.now; faults = g.O.Outbox.faults c.args.up.now } in
    let old : Links = record { left = g.I.Inbox.left c.args.from.now; faults = g.I.Inbox.faults c.args.from.now; times = g.T.Clock.times c.args.clock.now; drawing = d; sending = o } in
    let mid : Links = record old { times = g.T.Clock.times c.now-start_ms.new.self } in
    announces_by c.args.target.now c.now-start_ms.result c.new-asker.result old mid _ c.ask.result c.new-asker.ensures
    (opened c.args.target.now.server old d (g.T.Clock.times c.now-start_ms.new.self) [] c.now-start_ms.result (drawn-none d) c.now-start_ms.ensures.time)
    c.ask.ensures
