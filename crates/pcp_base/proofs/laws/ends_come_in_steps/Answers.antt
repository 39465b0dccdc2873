use Rattle.pcp_base.proofs.StageLaws.{ends_by-later}
use Rattle.pcp_base.proofs.StepLaws.{ends_3-by}
use Rattle.pcp_base.proofs.laws.ends_come_in_steps.Goals as goal

pub returns-clause-later : goal.returns-clause-later
returns-clause-later c = ends_by-later

pub returns-clause-recorded : goal.returns-clause-recorded
returns-clause-recorded c = λ s r h fits. ends_3-by s r h fits.allowed fits.rested
