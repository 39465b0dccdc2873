use Rattle.client_runs.specs.Links.{Drawing, Sending}
use Rattle.keep_runs.specs.Ends.{Outside}
use Rattle.keep_runs.proofs.CallLemmas.{can_be_kept, found_kept, kept_by, never_by}
use Rattle.keep_runs.proofs.runs.run_keep.Goals as goal

pub begin-requires : goal.begin-requires
begin-requires g c nonce = can_be_kept _ _ c.in-Some.asked (found_kept _ _ c.in-Ok.found c.in-Some.asked c.in-Some.is c.in-Ok.ensures) nonce

pub returns-in-Ok-begin : goal.returns-in-Ok-begin
returns-in-Ok-begin g c =
    let d : Drawing = record { words = g.E.Entropy.words c.begin.new.entropy; faults = g.E.Entropy.faults c.begin.new.entropy } in
    let old : Outside = record {
      links = record {
        left = g.I.Inbox.left c.args.from.now;
        faults = g.I.Inbox.faults c.args.from.now;
        times = g.T.Clock.times c.args.clock.now;
        drawing = record { words = g.E.Entropy.words c.args.entropy.now; faults = g.E.Entropy.faults c.args.entropy.now };
        sending = record { sent = g.O.Outbox.sent c.args.up.now; faults = g.O.Outbox.faults c.args.up.now };
      };
      held = g.W.Sink.held c.args.out.now;
      faults = g.W.Sink.faults c.args.out.now;
    } in
    let is = found_kept _ _ c.in-Ok.found c.in-Some.asked c.in-Some.is c.in-Ok.ensures in
    kept_by _ _ c.in-Some.asked old d (g.T.Clock.times c.begin.new.clock) is c.in-Ok-begin.keeper _ c.keep.result c.in-Ok-begin.ensures c.keep.ensures

pub returns : goal.returns
returns g c =
    let d : Drawing = record { words = g.E.Entropy.words c.begin.new.entropy; faults = g.E.Entropy.faults c.begin.new.entropy } in
    let old : Outside = record {
      links = record {
        left = g.I.Inbox.left c.args.from.now;
        faults = g.I.Inbox.faults c.args.from.now;
        times = g.T.Clock.times c.args.clock.now;
        drawing = record { words = g.E.Entropy.words c.args.entropy.now; faults = g.E.Entropy.faults c.args.entropy.now };
        sending = record { sent = g.O.Outbox.sent c.args.up.now; faults = g.O.Outbox.faults c.args.up.now };
      };
      held = g.W.Sink.held c.args.out.now;
      faults = g.W.Sink.faults c.args.out.now;
    } in
    let is = found_kept _ _ c.in-Ok.found c.in-Some.asked c.in-Some.is c.in-Ok.ensures in
    never_by _ _ c.in-Some.asked old d (g.T.Clock.times c.begin.new.clock) is c.in-Err.why c.status_without.result c.status_without.ensures c.in-Err.ensures
