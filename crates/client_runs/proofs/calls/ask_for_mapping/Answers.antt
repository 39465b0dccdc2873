use Rattle.std.proofs.Common.{◌≡◌, Result, Err, inl, rules}
use Rattle.pcp_options.specs.declared.responses.Response.{Response}
use Rattle.client_runs.specs.declared.tries.Unanswered.{Unanswered}
use Rattle.client_runs.specs.Links.{Drawing, Links, Sending}
use Rattle.client_runs.proofs.CallLemmas.{no_client, no_nonce, opened, wants_by}
use Rattle.client_runs.specs.Asking.{target_of}
use Rattle.client_runs.proofs.calls.ask_for_mapping.Goals as goal

pub returns-in_err-nonce : goal.returns-in_err-nonce
returns-in_err-nonce g c =
    let d : Drawing = record { words = g.E.Entropy.words c.args.entropy.now; faults = g.E.Entropy.faults c.args.entropy.now } in
    let d' : Drawing = record { words = g.E.Entropy.words c.nonce_by.new.entropy; faults = g.E.Entropy.faults c.nonce_by.new.entropy } in
    let o : Sending = record { sent = g.O.Outbox.sent c.args.up.now; faults = g.O.Outbox.faults c.args.up.now } in
    let old : Links = record { left = g.I.Inbox.left c.args.from.now; faults = g.I.Inbox.faults c.args.from.now; times = g.T.Clock.times c.args.clock.now; drawing = d; sending = o } in
    let same : ◌≡◌ {A = Result Response Unanswered} c.from_residual.result (Err c.in_err-nonce.field-0.0) = search rules in
    rw (same, c.in_err-nonce.ensures.reason) (inl (no_nonce (target_of c.args.asked.now.command) old d' c.in_err-nonce.ensures.part))

pub returns-in_err-client : goal.returns-in_err-client
returns-in_err-client g c =
    let d : Drawing = record { words = g.E.Entropy.words c.args.entropy.now; faults = g.E.Entropy.faults c.args.entropy.now } in
    let d' : Drawing = record { words = g.E.Entropy.words c.nonce_by.new.entropy; faults = g.E.Entropy.faults c.nonce_by.new.entropy } in
    let o : Sending = record { sent = g.O.Outbox.sent c.args.up.now; faults = g.O.Outbox.faults c.args.up.now } in
    let old : Links = record { left = g.I.Inbox.left c.args.from.now; faults = g.I.Inbox.faults c.args.from.now; times = g.T.Clock.times c.args.clock.now; drawing = d; sending = o } in
    let n = c.in_ok-nonce.ensures.nonce in
    let same : ◌≡◌ {A = Result Response Unanswered} c.from_residual-in_err-client.result (Err c.in_err-client.field-0.0) = search rules in
    rw (same, c.in_err-client.ensures.reason) (inl (no_client (target_of c.args.asked.now.command) old d' (g.T.Clock.times c.now-start_ms.new.self) n.words c.now-start_ms.result n.drawn n.few c.now-start_ms.ensures.time))

pub returns : goal.returns
returns g c =
    let d : Drawing = record { words = g.E.Entropy.words c.args.entropy.now; faults = g.E.Entropy.faults c.args.entropy.now } in
    let d' : Drawing = record { words = g.E.Entropy.words c.nonce_by.new.entropy; faults = g.E.Entropy.faults c.nonce_by.new.entropy } in
    let o : Sending = record { sent = g.O.Outbox.sent c.args.up.now; faults = g.O.Outbox.faults c.args.up.now } in
    let old : Links = record { left = g.I.Inbox.left c.args.from.now; faults = g.I.Inbox.faults c.args.from.now; times = g.T.Clock.times c.args.clock.now; drawing = d; sending = o } in
    let mid : Links = record old { times = g.T.Clock.times c.now-start_ms.new.self; drawing = d' } in
    let n = c.in_ok-nonce.ensures.nonce in
    wants_by c.args.asked.now c.args.target.now c.in_ok-nonce.nonce n.words c.now-start_ms.result c.in_ok-client.client old mid _ c.ask.result c.requires.target n.is n.few c.in_ok-client.ensures.client
    (opened c.args.target.now.server old d' (g.T.Clock.times c.now-start_ms.new.self) n.words c.now-start_ms.result n.drawn c.now-start_ms.ensures.time)
    c.ask.ensures
