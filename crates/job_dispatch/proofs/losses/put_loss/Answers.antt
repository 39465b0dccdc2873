use Rattle.job_dispatch.proofs.LossLemmas.{loss_fits, loss_is_quiet}
use Rattle.job_dispatch.proofs.losses.put_loss.Goals as goal

pub put-put-requires-clause-job : goal.put-put-requires-clause-job
put-put-requires-clause-job g c = loss_fits _

pub put-put-requires-clause-noise : goal.put-put-requires-clause-noise
put-put-requires-clause-noise g c = loss_is_quiet _
