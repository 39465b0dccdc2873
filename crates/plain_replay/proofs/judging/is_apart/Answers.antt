use Rattle.std.proofs.Common.{◌∙◌, sym}
use Rattle.plain_replay.proofs.AgreeLemmas.{all_apart}
use Rattle.plain_replay.proofs.judging.is_apart.Goals as goal

pub returns : goal.returns
returns c = (
  λ h. (all_apart c.args.maps.now c.args.lease.now).0 (sym c.are_all_apart.ensures ∙ h),
  λ h. c.are_all_apart.ensures ∙ (all_apart c.args.maps.now c.args.lease.now).1 h,
)
