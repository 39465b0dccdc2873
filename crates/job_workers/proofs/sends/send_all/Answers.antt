use Rattle.std.proofs.Common.{◌≤◌, ◌<◌, ◌-◌, ◌^◌, length, arith, rules, ◌∙◌}
use Rattle.job_workers.proofs.SendLemmas.{HandsOn-bound, HandsOn-more, counts_one-if}
use Rattle.job_workers.proofs.sends.send_all.Goals as goal

pub after_one-sends-requires : goal.after_one-sends-requires
after_one-sends-requires g c =
    let within : c.loop-i.i ≤ length c.args.replies.now = search rules in
    let small : c.loop-i.i < 2 ^ 64 - 1 = search rules in
    omega (arith, HandsOn-bound c.args.replies.now c.loop-i.i c.loop-i.sends _ _ _ _ c.loop-i.invariant within, small)

pub loop-i-preserved : goal.loop-i-preserved
loop-i-preserved g c =
    HandsOn-more c.args.replies.now c.loop-i.i c.index-replies-i.result c.send_reply-sent.result c.loop-i.sends c.after_one-sends.result _ _ _ _ _ _
    c.loop-i.invariant (search rules) c.index-replies-i.is c.send_reply-sent.ensures (c.after_one-sends.ensures ∙ counts_one-if c.loop-i.sends c.send_reply-sent.result)
