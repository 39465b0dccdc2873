use Rattle.std.proofs.Common.{refl}
use Rattle.job_dispatch.specs.Dispatches.{Ignored}
use Rattle.job_dispatch.proofs.dispatching.dispatch_item.Goals as goal

pub returns-in-Status-clause-fate : goal.returns-in-Status-clause-fate
returns-in-Status-clause-fate g c = rw c.in-Status.is (Ignored, (tt, refl), refl)

pub returns-in-Quiet-clause-fate : goal.returns-in-Quiet-clause-fate
returns-in-Quiet-clause-fate g c = rw c.in-Quiet.is (Ignored, (tt, refl), refl)
