use Rattle.std.proofs.Common.{◌≡◌, length, None, Some, Result, Err, rules}
use Rattle.client_runs.specs.declared.tries.Unanswered.{Unanswered}
use Rattle.client_runs.specs.declared.tries.Unanswered.TheVariants as Reasons
use Rattle.client_runs.specs.Links.{Drawing, Sending}
use Rattle.client_runs.proofs.TickLemmas.{tick_fails, tick_none, tick_sends}
use Rattle.client_runs.proofs.WordLemmas.{draws_by}
use Rattle.client_runs.proofs.turns.tick.Goals as goal

pub returns-in_err-request : goal.returns-in_err-request
returns-in_err-request g c limit words requests has =
    let d : Drawing = record { words = g.E.Entropy.words c.args.entropy.now; faults = g.E.Entropy.faults c.args.entropy.now } in
    let d' : Drawing = record { words = g.E.Entropy.words c.next_word.new.entropy; faults = g.E.Entropy.faults c.next_word.new.entropy } in
    let o : Sending = record { sent = g.O.Outbox.sent c.args.up.now; faults = g.O.Outbox.faults c.args.up.now } in
    let draws = draws_by limit words (length requests) c.args.tries.now c.next_word.new.self d.words d'.words c.in_ok-word.word has c.in_ok-word.ensures.word in
    let same : ◌≡◌ {A = Result (Unit {0}) Unanswered} c.from_residual-in_err-request.result (Err Reasons.Memory) = search rules in
    rw same (tick_fails g.A.Asker.asking limit c.args.server c.args.now_ms words requests c.args.asker.now c.args.asker.now c.next_word.new.self d d' c.in_ok-word.word draws c.in_ok-word.ensures.cause.later o)

pub returns-in_default : goal.returns-in_default
returns-in_default g c limit words requests has =
    let d : Drawing = record { words = g.E.Entropy.words c.args.entropy.now; faults = g.E.Entropy.faults c.args.entropy.now } in
    let d' : Drawing = record { words = g.E.Entropy.words c.next_word.new.entropy; faults = g.E.Entropy.faults c.next_word.new.entropy } in
    let o : Sending = record { sent = g.O.Outbox.sent c.args.up.now; faults = g.O.Outbox.faults c.args.up.now } in
    let draws = draws_by limit words (length requests) c.args.tries.now c.next_word.new.self d.words d'.words c.in_ok-word.word has c.in_ok-word.ensures.word in
    let due : g.A.Asker.asking.request c.args.asker.now c.args.now_ms ≡ None = search rules in
    tick_none g.A.Asker.asking limit c.args.server c.args.now_ms words requests c.args.asker.now c.next_request.new.self c.next_word.new.self d d' c.in_ok-word.word draws c.in_ok-word.ensures.cause.later o
    due c.in_ok-request.ensures.after

pub returns : goal.returns
returns g c limit words requests has =
    let d : Drawing = record { words = g.E.Entropy.words c.args.entropy.now; faults = g.E.Entropy.faults c.args.entropy.now } in
    let d' : Drawing = record { words = g.E.Entropy.words c.next_word.new.entropy; faults = g.E.Entropy.faults c.next_word.new.entropy } in
    let o : Sending = record { sent = g.O.Outbox.sent c.args.up.now; faults = g.O.Outbox.faults c.args.up.now } in
    let o' : Sending = record { sent = g.O.Outbox.sent c.send.new.up; faults = g.O.Outbox.faults c.send.new.up } in
    let draws = draws_by limit words (length requests) c.args.tries.now c.next_word.new.self d.words d'.words c.in_ok-word.word has c.in_ok-word.ensures.word in
    let due : g.A.Asker.asking.request c.args.asker.now c.args.now_ms ≡ Some c.in-Some.text = search rules in
    tick_sends g.A.Asker.asking limit c.args.server c.args.now_ms words requests c.args.asker.now c.next_request.new.self c.next_word.new.self d d' c.in_ok-word.word draws c.in_ok-word.ensures.cause.later
    c.in-Some.text c.send.new.self o o' c.send.result due c.in_ok-request.ensures.after c.send.ensures.more c.send.ensures.counted c.send.ensures.sent c.send.ensures.silence c.send.ensures.all c.send.ensures.unsent c.send.ensures.same
