use Rattle.std.proofs.Common.{◌≡◌, ◌∙◌, ap, sym}
use Rattle.pcp_base.specs.Ends.{resting}
use Rattle.plain_replay.specs.Agreeing.{leave_all}
use Rattle.plain_replay.proofs.AgreeLemmas.{left_by_all}
use Rattle.plain_replay.proofs.replay.PlainReplay.are_free.Goals as goal

pub returns : goal.returns
returns c =
    let same : c.are_left.result ≡ leave_all (resting c.args.self.now c.args.m) c.args.owners.now =
    c.are_left.ensures ∙ ap (λ es. leave_all es c.args.owners.now) (c.deref.ensures.value ∙ c.in_ok-ends.ensures) in (
      λ h. (left_by_all (resting c.args.self.now c.args.m) c.args.owners.now).0 (sym same ∙ h),
      λ h. same ∙ (left_by_all (resting c.args.self.now c.args.m) c.args.owners.now).1 h,
    )
