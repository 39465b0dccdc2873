use Rattle.std.proofs.Common.{◌≤◌, length, Some, sym, ap, subst, arith}
use Rattle.cascade_ties.specs.declared.ties.Tie.{Tie}
use Rattle.cascade_ties.specs.declared.ties.Waiting.{Waiting}
use Rattle.cascade_ties.specs.Ties.{Ties}
use Rattle.proxy_cascade.specs.Kept.{AreKept}
use Rattle.proxy_cascade.proofs.KeptLemmas.{kept-again, may-again}
use Rattle.proxy_cascade.proofs.asking.answer_again.Goals as goal

pub change-requires : goal.change-requires
change-requires c =
    may-again c.args.ties.now c.args.ask.now.endpoint c.args.tie c.requires.tied (record { tie = c.asked_again-again.result; waiting = Some c.in_ok-waiting.waiting })
    (ap (λ (t : Tie). t.client) c.asked_again-again.ensures) (ap (λ (t : Tie). t.local) c.asked_again-again.ensures)

pub returns-clause-kept : goal.returns-clause-kept
returns-clause-kept c =
    let octets = ap (λ (w : Waiting). length w.request) c.in_ok-waiting.ensures in
    let head : 24 ≤ length c.in_ok-waiting.waiting.request = omega (arith, octets, c.requires.head) in
    subst (λ (ts : Ties). AreKept ts.each) (sym c.in_ok-change.ensures.ok)
    (kept-again c.args.ties.now c.args.ask.now.endpoint c.args.tie c.requires.tied (record { tie = c.asked_again-again.result; waiting = Some c.in_ok-waiting.waiting })
    (ap (λ (t : Tie). t.client) c.asked_again-again.ensures) (ap (λ (t : Tie). t.local) c.asked_again-again.ensures) head c.requires.kept)
