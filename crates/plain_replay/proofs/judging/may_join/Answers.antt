use Rattle.std.proofs.Common.{◌∙◌, sym}
use Rattle.plain_replay.proofs.AgreeLemmas.{Agree-from_test, test-from_Agree}
use Rattle.plain_replay.proofs.judging.may_join.Goals as goal

pub returns : goal.returns
returns c = (
  λ h. Agree-from_test c.args.owners.now c.args.others.now (sym c.do_all_agree.ensures ∙ h),
  λ h. c.do_all_agree.ensures ∙ test-from_Agree c.args.owners.now c.args.others.now h,
)
