use Rattle.std.proofs.Common.{◌≡◌, ◌≢◌, [], Option, None, Some, Result, Ok, Err, refl, sym, subst, ◌∙◌, arith, rules}
use Rattle.std.specs.Prelude.{IfSome}
use Rattle.pcp_io.specs.declared.inboxes.InboxItem.{InboxItem}
use Rattle.pcp_io.specs.declared.inboxes.Incoming.TheVariants as Incomings
use Rattle.pcp_io.specs.Takes.{IsNextItem, item_of}
use Rattle.pcp_options.specs.declared.responses.Response.{Response}
use Rattle.client_runs.specs.declared.tries.Unanswered.{Unanswered}
use Rattle.client_runs.specs.declared.tries.Unanswered.TheVariants as Reasons
use Rattle.client_runs.specs.Links.{Drawing, Links, Sending}
use Rattle.client_runs.specs.Runs.{Turn, after_item, answer_in}
use Rattle.client_runs.specs.Ticks.{IsTicked}
use Rattle.client_runs.proofs.LinkLemmas.{drawn-none, items-none, requests-none}
use Rattle.client_runs.proofs.OverLemmas.{at_stop, goes_on_by, over_answered, over_link, over_memory, over_stopped, passed_inbox, passed_turn, tick_ends}
use Rattle.client_runs.proofs.RunLemmas.{is_item}
use Rattle.client_runs.proofs.turns.turn.Goals as goal

pub returns-in_default : goal.returns-in_default
returns-in_default g c state time before count u below =
    let d : Drawing = record { words = g.E.Entropy.words c.args.entropy.now; faults = g.E.Entropy.faults c.args.entropy.now } in
    let o : Sending = record { sent = g.O.Outbox.sent c.args.up.now; faults = g.O.Outbox.faults c.args.up.now } in
    let mid : Links = record { left = g.I.Inbox.left c.args.from.now; faults = g.I.Inbox.faults c.args.from.now; times = g.T.Clock.times c.args.clock.now; drawing = d; sending = o } in
    let now : Links = record mid { left = g.I.Inbox.left c.take.new.self; faults = g.I.Inbox.faults c.take.new.self } in
    let same : now.left ≡ mid.left = search rules in
    over_link g.A.Asker.asking c.args.target.now state time before mid count c.args.asker.now c.args.tries.now u now below
    (passed_inbox c.args.target.now.server mid now (rw same (items-none mid.left)) c.take.ensures.cause.later refl refl refl)
    (c.take.ensures.cause.failed (search rules))

pub returns-then-eq : goal.returns-then-eq
returns-then-eq g c state time before count u below =
    let d : Drawing = record { words = g.E.Entropy.words c.args.entropy.now; faults = g.E.Entropy.faults c.args.entropy.now } in
    let o : Sending = record { sent = g.O.Outbox.sent c.args.up.now; faults = g.O.Outbox.faults c.args.up.now } in
    let mid : Links = record { left = g.I.Inbox.left c.args.from.now; faults = g.I.Inbox.faults c.args.from.now; times = g.T.Clock.times c.args.clock.now; drawing = d; sending = o } in
    let now : Links = record mid { left = g.I.Inbox.left c.take.new.self; faults = g.I.Inbox.faults c.take.new.self } in
    let stop : c.in-Ok.incoming ≡ Incomings.Stop = search rules in
    let next : IsNextItem mid.left now.left None = subst (λ i. IsNextItem mid.left now.left (item_of i c.take.new.room)) stop c.in-Ok.ensures.takes.next in
    let stands = at_stop mid.left now.left next in
    over_stopped g.A.Asker.asking c.args.target.now state time before mid count c.args.asker.now c.args.tries.now u now below
    (passed_inbox c.args.target.now.server mid now stands.0 c.take.ensures.cause.later refl refl refl) stands.1

pub returns-in_err-found : goal.returns-in_err-found
returns-in_err-found g c state time before count u below =
    let d : Drawing = record { words = g.E.Entropy.words c.args.entropy.now; faults = g.E.Entropy.faults c.args.entropy.now } in
    let o : Sending = record { sent = g.O.Outbox.sent c.args.up.now; faults = g.O.Outbox.faults c.args.up.now } in
    let mid : Links = record { left = g.I.Inbox.left c.args.from.now; faults = g.I.Inbox.faults c.args.from.now; times = g.T.Clock.times c.args.clock.now; drawing = d; sending = o } in
    let now : Links = record { left = g.I.Inbox.left c.take.new.self; faults = g.I.Inbox.faults c.take.new.self; times = g.T.Clock.times c.now-now_ms.new.self; drawing = d; sending = o } in
    let on : c.in-Ok.incoming ≢ Incomings.Stop = search rules in
    let it = is_item c.in-Ok.incoming c.take.new.room on in
    let next : IsNextItem mid.left now.left (Some it.0) = subst (λ i. IsNextItem mid.left now.left i) it.1 c.in-Ok.ensures.takes.next in
    let turn : Turn = record { item = it.0; time = c.now-now_ms.result } in
    let same : ◌≡◌ {A = Result (Option Response) Unanswered} c.from_residual.result (Err Reasons.Memory) = search rules in
    rw same (over_memory g.A.Asker.asking c.args.target.now state time before mid count c.args.asker.now c.args.tries.now u now turn [] below (omega arith)
    (passed_turn c.args.target.now.server it.0 c.now-now_ms.result [] [] mid now next c.take.ensures.cause.later c.now-now_ms.ensures.time (drawn-none d) (requests-none c.args.target.now.server o)))

pub returns-in-Some : goal.returns-in-Some
returns-in-Some g c state time before count u below =
    let d : Drawing = record { words = g.E.Entropy.words c.args.entropy.now; faults = g.E.Entropy.faults c.args.entropy.now } in
    let o : Sending = record { sent = g.O.Outbox.sent c.args.up.now; faults = g.O.Outbox.faults c.args.up.now } in
    let mid : Links = record { left = g.I.Inbox.left c.args.from.now; faults = g.I.Inbox.faults c.args.from.now; times = g.T.Clock.times c.args.clock.now; drawing = d; sending = o } in
    let now : Links = record { left = g.I.Inbox.left c.take.new.self; faults = g.I.Inbox.faults c.take.new.self; times = g.T.Clock.times c.now-now_ms.new.self; drawing = d; sending = o } in
    let on : c.in-Ok.incoming ≢ Incomings.Stop = search rules in
    let it = is_item c.in-Ok.incoming c.take.new.room on in
    let next : IsNextItem mid.left now.left (Some it.0) = subst (λ i. IsNextItem mid.left now.left i) it.1 c.in-Ok.ensures.takes.next in
    let turn : Turn = record { item = it.0; time = c.now-now_ms.result } in
    let heard : c.in_ok-found.found ≡ answer_in g.A.Asker.asking c.args.asker.now it.0 c.now-now_ms.result =
    subst (λ i. IfSome i (λ (item : InboxItem). c.in_ok-found.found ≡ answer_in g.A.Asker.asking c.args.asker.now item c.now-now_ms.result)) it.1 c.in_ok-found.ensures.answer in
    let some : c.in_ok-found.found ≡ Some c.in-Some.response = search rules in
    over_answered g.A.Asker.asking c.args.target.now state time before mid count c.args.asker.now c.args.tries.now u now turn c.in-Some.response below (sym heard ∙ some)
    (passed_turn c.args.target.now.server it.0 c.now-now_ms.result [] [] mid now next c.take.ensures.cause.later c.now-now_ms.ensures.time (drawn-none d) (requests-none c.args.target.now.server o))

pub returns-in_err-tick : goal.returns-in_err-tick
returns-in_err-tick g c state time before count u below =
    let d : Drawing = record { words = g.E.Entropy.words c.args.entropy.now; faults = g.E.Entropy.faults c.args.entropy.now } in
    let o : Sending = record { sent = g.O.Outbox.sent c.args.up.now; faults = g.O.Outbox.faults c.args.up.now } in
    let d' : Drawing = record { words = g.E.Entropy.words c.tick.new.entropy; faults = g.E.Entropy.faults c.tick.new.entropy } in
    let o' : Sending = record { sent = g.O.Outbox.sent c.tick.new.up; faults = g.O.Outbox.faults c.tick.new.up } in
    let mid : Links = record { left = g.I.Inbox.left c.args.from.now; faults = g.I.Inbox.faults c.args.from.now; times = g.T.Clock.times c.args.clock.now; drawing = d; sending = o } in
    let now : Links = record { left = g.I.Inbox.left c.take.new.self; faults = g.I.Inbox.faults c.take.new.self; times = g.T.Clock.times c.now-now_ms.new.self; drawing = d'; sending = o' } in
    let on : c.in-Ok.incoming ≢ Incomings.Stop = search rules in
    let it = is_item c.in-Ok.incoming c.take.new.room on in
    let next : IsNextItem mid.left now.left (Some it.0) = subst (λ i. IsNextItem mid.left now.left i) it.1 c.in-Ok.ensures.takes.next in
    let turn : Turn = record { item = it.0; time = c.now-now_ms.result } in
    let heard : c.in_ok-found.found ≡ answer_in g.A.Asker.asking c.args.asker.now it.0 c.now-now_ms.result =
    subst (λ i. IfSome i (λ (item : InboxItem). c.in_ok-found.found ≡ answer_in g.A.Asker.asking c.args.asker.now item c.now-now_ms.result)) it.1 c.in_ok-found.ensures.answer in
    let after : c.hear.new.asker ≡ after_item g.A.Asker.asking c.args.asker.now it.0 c.now-now_ms.result =
    subst (λ i. IfSome i (λ (item : InboxItem). c.hear.new.asker ≡ after_item g.A.Asker.asking c.args.asker.now item c.now-now_ms.result)) it.1 c.in_ok-found.ensures.after in
    let none : c.in_ok-found.found ≡ None = search rules in
    let why = c.in_err-tick.field-0.0 in
    let ticked = subst (λ s. IsTicked g.A.Asker.asking c.args.target.now.tries c.args.target.now.server c.now-now_ms.result u.words u.requests s c.tick.new.asker c.tick.new.tries d d' o o' (Err why)) after
    (c.in_err-tick.ensures c.args.target.now.tries u.words u.requests u.has) in
    let same : ◌≡◌ {A = Result (Option Response) Unanswered} c.from_residual-in_err-tick.result (Err why) = search rules in
    rw same (tick_ends g.A.Asker.asking c.args.target.now state time before mid count c.args.asker.now c.args.tries.now u now turn c.tick.new.asker c.tick.new.tries why below (sym heard ∙ none) next c.take.ensures.cause.later c.now-now_ms.ensures.time ticked)

pub returns : goal.returns
returns g c state time before count u below =
    let d : Drawing = record { words = g.E.Entropy.words c.args.entropy.now; faults = g.E.Entropy.faults c.args.entropy.now } in
    let o : Sending = record { sent = g.O.Outbox.sent c.args.up.now; faults = g.O.Outbox.faults c.args.up.now } in
    let d' : Drawing = record { words = g.E.Entropy.words c.tick.new.entropy; faults = g.E.Entropy.faults c.tick.new.entropy } in
    let o' : Sending = record { sent = g.O.Outbox.sent c.tick.new.up; faults = g.O.Outbox.faults c.tick.new.up } in
    let mid : Links = record { left = g.I.Inbox.left c.args.from.now; faults = g.I.Inbox.faults c.args.from.now; times = g.T.Clock.times c.args.clock.now; drawing = d; sending = o } in
    let now : Links = record { left = g.I.Inbox.left c.take.new.self; faults = g.I.Inbox.faults c.take.new.self; times = g.T.Clock.times c.now-now_ms.new.self; drawing = d'; sending = o' } in
    let on : c.in-Ok.incoming ≢ Incomings.Stop = search rules in
    let it = is_item c.in-Ok.incoming c.take.new.room on in
    let next : IsNextItem mid.left now.left (Some it.0) = subst (λ i. IsNextItem mid.left now.left i) it.1 c.in-Ok.ensures.takes.next in
    let turn : Turn = record { item = it.0; time = c.now-now_ms.result } in
    let heard : c.in_ok-found.found ≡ answer_in g.A.Asker.asking c.args.asker.now it.0 c.now-now_ms.result =
    subst (λ i. IfSome i (λ (item : InboxItem). c.in_ok-found.found ≡ answer_in g.A.Asker.asking c.args.asker.now item c.now-now_ms.result)) it.1 c.in_ok-found.ensures.answer in
    let after : c.hear.new.asker ≡ after_item g.A.Asker.asking c.args.asker.now it.0 c.now-now_ms.result =
    subst (λ i. IfSome i (λ (item : InboxItem). c.hear.new.asker ≡ after_item g.A.Asker.asking c.args.asker.now item c.now-now_ms.result)) it.1 c.in_ok-found.ensures.after in
    let none : c.in_ok-found.found ≡ None = search rules in
    let ticked = subst (λ s. IsTicked g.A.Asker.asking c.args.target.now.tries c.args.target.now.server c.now-now_ms.result u.words u.requests s c.tick.new.asker c.tick.new.tries d d' o o' (Ok tt)) after
    (c.in_ok-tick.ensures c.args.target.now.tries u.words u.requests u.has) in
    goes_on_by g.A.Asker.asking c.args.target.now state time before mid count c.args.asker.now c.args.tries.now u now turn c.tick.new.asker c.tick.new.tries (sym heard ∙ none) next c.take.ensures.cause.later c.now-now_ms.ensures.time ticked
