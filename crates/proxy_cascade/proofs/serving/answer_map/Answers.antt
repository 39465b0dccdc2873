use Rattle.std.proofs.Common.{sym, subst}
use Rattle.cascade_ties.specs.declared.ties.Tied.{Tied}
use Rattle.cascade_ties.specs.Ties.{MayMove, Ties, with_change}
use Rattle.proxy_cascade.specs.Kept.{AreKept}
use Rattle.proxy_cascade.proofs.Deeds.{waited}
use Rattle.proxy_cascade.proofs.KeptLemmas.{head-at, kept-after, kept-moved, may-move, tied-at}
use Rattle.proxy_cascade.proofs.TieFacts.{found-client, next-fewer}
use Rattle.proxy_cascade.proofs.serving.answer_map.Goals as goal

pub moved-requires : goal.moved-requires
moved-requires c =
    next-fewer c.args.ties.now c.args.response.now c.in-Some-at_local.tied.now.tie c.in-Some-still_waits.waiting.now c.in-Some-next_local.local (sym c.in-Some-next_local.ensures)

pub move_on-requires-clause-may : goal.move_on-requires-clause-may
move_on-requires-clause-may c =
    subst (λ (x : Tied). MayMove c.args.ties.now c.in-Some-at_local.tied.now.tie.local x) (sym c.in_ok-tied.ensures)
    (may-move c.args.ties.now c.args.response.now c.in-Some-at_local.tied.now c.in-Some-still_waits.waiting.now c.in-Some-next_local.local
    (found-client c.in-Some.protocol c.args.common.now.internal c.args.ties.now.each c.in-Some-at_local.tied.now c.requires.kept.differ (sym c.in-Some-at_local.ensures)) (sym c.in-Some-next_local.ensures))

pub returns-in-Some-next_local-clause-kept : goal.returns-in-Some-next_local-clause-kept
returns-in-Some-next_local-clause-kept c =
    subst (λ (ts : Ties). AreKept ts.each) (sym c.in_ok-move_on.ensures.ok)
    (subst (λ (x : Tied). AreKept (with_change c.args.ties.now x).each) (sym c.in_ok-tied.ensures)
    (kept-moved c.args.ties.now c.args.response.now c.in-Some-at_local.tied.now c.in-Some-still_waits.waiting.now c.in-Some-next_local.local
    (found-client c.in-Some.protocol c.args.common.now.internal c.args.ties.now.each c.in-Some-at_local.tied.now c.requires.kept.differ (sym c.in-Some-at_local.ensures))
    (waited c.args.terms.now.last_ms c.in-Some-at_local.tied.now.waiting c.in-Some-still_waits.waiting.now (sym c.in-Some-still_waits.ensures)) (sym c.in-Some-next_local.ensures) c.requires.kept))

pub reply_for-requires : goal.reply_for-requires
reply_for-requires c =
    head-at c.args.ties.now c.in-Some.protocol c.args.common.now.internal c.args.terms.now.last_ms c.in-Some-at_local.tied.now c.in-Some-still_waits.waiting.now
    (sym c.in-Some-at_local.ensures) (sym c.in-Some-still_waits.ensures) c.requires.kept

pub settle-requires-clause-tied : goal.settle-requires-clause-tied
settle-requires-clause-tied c = tied-at c.args.ties.now c.in-Some.protocol c.args.common.now.internal c.in-Some-at_local.tied.now (sym c.in-Some-at_local.ensures) c.requires.kept

pub returns-clause-kept : goal.returns-clause-kept
returns-clause-kept c =
    subst (λ (ts : Ties). AreKept ts.each) (sym c.in_ok-settle.ensures.ok)
    (kept-after c.args.terms.now.last_ms c.args.response.now c.args.common.now c.in-Some-at_local.tied.now c.args.ties.now
    (found-client c.in-Some.protocol c.args.common.now.internal c.args.ties.now.each c.in-Some-at_local.tied.now c.requires.kept.differ (sym c.in-Some-at_local.ensures)) c.requires.kept)
