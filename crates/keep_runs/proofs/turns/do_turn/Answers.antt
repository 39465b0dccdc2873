use Rattle.std.proofs.Common.{◌≡◌, ◌≢◌, Some, None, refl, subst, rules}
use Rattle.std.specs.Prelude.{IfSome}
use Rattle.pcp_io.specs.declared.inboxes.InboxItem.{InboxItem}
use Rattle.pcp_io.specs.declared.inboxes.Incoming.TheVariants as Incomings
use Rattle.pcp_io.specs.Takes.{IsNextItem, item_of}
use Rattle.client_runs.specs.Links.{Drawing, Sending}
use Rattle.client_runs.proofs.LinkLemmas.{items-none}
use Rattle.client_runs.proofs.OverLemmas.{at_stop}
use Rattle.client_runs.proofs.RunLemmas.{is_item}
use Rattle.keep_runs.specs.Ends.{Outside}
use Rattle.keep_runs.specs.Keeping.{packet_of}
use Rattle.keep_runs.specs.Steps.{IsDone}
use Rattle.keep_runs.proofs.TurnLemmas.{over_inbox, over_packet, over_stop, sides_of, turned}
use Rattle.keep_runs.proofs.turns.do_turn.Goals as goal

pub returns-in_default : goal.returns-in_default
returns-in_default g c start before u =
    let d : Drawing = record { words = g.E.Entropy.words c.args.entropy.now; faults = g.E.Entropy.faults c.args.entropy.now } in
    let o : Sending = record { sent = g.O.Outbox.sent c.args.up.now; faults = g.O.Outbox.faults c.args.up.now } in
    let mid : Outside = record {
      links = record { left = g.I.Inbox.left c.args.from.now; faults = g.I.Inbox.faults c.args.from.now; times = g.T.Clock.times c.args.clock.now; drawing = d; sending = o };
      held = g.W.Sink.held c.args.out.now;
      faults = g.W.Sink.faults c.args.out.now;
    } in
    let now : Outside = record mid { links = record mid.links { left = g.I.Inbox.left c.take.new.self; faults = g.I.Inbox.faults c.take.new.self } } in
    let same : now.links.left ≡ mid.links.left = search rules in
    over_inbox c.args.server start before c.args.keeper.now mid now u (rw same (items-none mid.links.left)) c.take.ensures.cause.later (c.take.ensures.cause.failed (search rules)) refl refl refl refl

pub returns-then-eq : goal.returns-then-eq
returns-then-eq g c start before u =
    let d : Drawing = record { words = g.E.Entropy.words c.args.entropy.now; faults = g.E.Entropy.faults c.args.entropy.now } in
    let o : Sending = record { sent = g.O.Outbox.sent c.args.up.now; faults = g.O.Outbox.faults c.args.up.now } in
    let mid : Outside = record {
      links = record { left = g.I.Inbox.left c.args.from.now; faults = g.I.Inbox.faults c.args.from.now; times = g.T.Clock.times c.args.clock.now; drawing = d; sending = o };
      held = g.W.Sink.held c.args.out.now;
      faults = g.W.Sink.faults c.args.out.now;
    } in
    let now : Outside = record mid { links = record mid.links { left = g.I.Inbox.left c.take.new.self; faults = g.I.Inbox.faults c.take.new.self } } in
    let stop : c.in-Ok.incoming ≡ Incomings.Stop = search rules in
    let next : IsNextItem mid.links.left now.links.left None = subst (λ i. IsNextItem mid.links.left now.links.left (item_of i c.take.new.room)) stop c.in-Ok.ensures.takes.next in
    let stands = at_stop mid.links.left now.links.left next in
    over_stop c.args.server start before c.args.keeper.now mid now u stands.0 stands.1 c.take.ensures.cause.later refl refl refl refl

pub returns-in_default-packet_in : goal.returns-in_default-packet_in
returns-in_default-packet_in g c start before u =
    let d : Drawing = record { words = g.E.Entropy.words c.args.entropy.now; faults = g.E.Entropy.faults c.args.entropy.now } in
    let o : Sending = record { sent = g.O.Outbox.sent c.args.up.now; faults = g.O.Outbox.faults c.args.up.now } in
    let mid : Outside = record {
      links = record { left = g.I.Inbox.left c.args.from.now; faults = g.I.Inbox.faults c.args.from.now; times = g.T.Clock.times c.args.clock.now; drawing = d; sending = o };
      held = g.W.Sink.held c.args.out.now;
      faults = g.W.Sink.faults c.args.out.now;
    } in
    let now : Outside = record mid { links = record { left = g.I.Inbox.left c.take.new.self; faults = g.I.Inbox.faults c.take.new.self; times = g.T.Clock.times c.now-now_ms.new.self; drawing = d; sending = o } } in
    let on : c.in-Ok.incoming ≢ Incomings.Stop = search rules in
    let it = is_item c.in-Ok.incoming c.take.new.room on in
    let next : IsNextItem mid.links.left now.links.left (Some it.0) = subst (λ i. IsNextItem mid.links.left now.links.left i) it.1 c.in-Ok.ensures.takes.next in
    over_packet c.args.server start before c.args.keeper.now mid now u it.0 c.now-now_ms.result next c.take.ensures.cause.later c.now-now_ms.ensures.time refl refl refl

pub returns : goal.returns
returns g c start before u =
    let d : Drawing = record { words = g.E.Entropy.words c.args.entropy.now; faults = g.E.Entropy.faults c.args.entropy.now } in
    let o : Sending = record { sent = g.O.Outbox.sent c.args.up.now; faults = g.O.Outbox.faults c.args.up.now } in
    let d' : Drawing = record { words = g.E.Entropy.words c.do_packet.new.entropy; faults = g.E.Entropy.faults c.do_packet.new.entropy } in
    let o' : Sending = record { sent = g.O.Outbox.sent c.do_packet.new.up; faults = g.O.Outbox.faults c.do_packet.new.up } in
    let mid : Outside = record {
      links = record { left = g.I.Inbox.left c.args.from.now; faults = g.I.Inbox.faults c.args.from.now; times = g.T.Clock.times c.args.clock.now; drawing = d; sending = o };
      held = g.W.Sink.held c.args.out.now;
      faults = g.W.Sink.faults c.args.out.now;
    } in
    let now : Outside = record {
      links = record { left = g.I.Inbox.left c.take.new.self; faults = g.I.Inbox.faults c.take.new.self; times = g.T.Clock.times c.now-now_ms.new.self; drawing = d'; sending = o' };
      held = g.W.Sink.held c.do_packet.new.out;
      faults = g.W.Sink.faults c.do_packet.new.out;
    } in
    let on : c.in-Ok.incoming ≢ Incomings.Stop = search rules in
    let it = is_item c.in-Ok.incoming c.take.new.room on in
    let next : IsNextItem mid.links.left now.links.left (Some it.0) = subst (λ i. IsNextItem mid.links.left now.links.left i) it.1 c.in-Ok.ensures.takes.next in
    let packet : c.in-Ok-packet_in.packet ≡ packet_of it.0 =
    subst (λ i. IfSome i (λ (item : InboxItem). c.in-Ok-packet_in.packet ≡ packet_of item)) it.1 c.in-Ok-packet_in.ensures in
    turned c.args.server start before c.args.keeper.now mid now u it.0 c.now-now_ms.result next c.take.ensures.cause.later c.now-now_ms.ensures.time c.do_packet.new.keeper c.do_packet.result
    (subst (λ p. IsDone c.args.server c.args.keeper.now c.do_packet.new.keeper p c.now-now_ms.result (sides_of mid) (sides_of now) c.do_packet.result) packet c.do_packet.ensures)
