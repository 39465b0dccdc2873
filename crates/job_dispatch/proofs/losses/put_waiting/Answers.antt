use Rattle.std.proofs.Common.{ap, ◌∙◌, arith}
use Rattle.job_dispatch.proofs.LossLemmas.{put_one, put_same}
use Rattle.job_dispatch.proofs.losses.put_waiting.Goals.{then-put_late_at, else-put_late_at}
use Rattle.job_dispatch.proofs.losses.put_waiting.Goals as goal

pub loop-shard-preserved : goal.loop-shard-preserved
loop-shard-preserved g c =
    let count = c.put_late_at.auto.ports in
    let counted = c.loop-shard.invariant.count in
    let later = c.loop-shard.invariant.later in
    elim c.if-put_late_at.branch [
      | then-put_late_at w ↦ record {
        put = put_one _ _ c.loop-shard.shard _ _ _ c.loop-shard.invariant.put (c.put_late_at.ensures.put w.if-put_late_at.true);
        count = omega (arith, count, counted);
        left = ap (λ x. g.I.Inbox.left x) w.inbox-is ∙ (w.answer_losses.ensures.left ∙ c.loop-shard.invariant.left);
        later = let is = ap (λ x. g.I.Inbox.faults x) w.inbox-is in let more = w.answer_losses.ensures.later in omega (arith, is, more, later);
      }
      | else-put_late_at w ↦ record {
        put = put_same _ _ _ _ _ c.loop-shard.invariant.put (c.put_late_at.ensures.unchanged w.if-put_late_at.false);
        count = omega (arith, count, counted);
        left = ap (λ x. g.I.Inbox.left x) w.inbox-is ∙ c.loop-shard.invariant.left;
        later = let is = ap (λ x. g.I.Inbox.faults x) w.inbox-is in omega (arith, is, later);
      }
    ]
