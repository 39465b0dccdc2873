use Rattle.std.proofs.Common.{◌≡◌, rules}
use Rattle.job_workers.specs.declared.workers.Next.TheVariants as Nexts
use Rattle.job_workers.proofs.WorkLemmas.{Works-loss}
use Rattle.job_workers.proofs.workers.do_loss.Goals as goal

pub returns-clause-works : goal.returns-clause-works
returns-clause-works g c sent faults =
    let is : c.args.next ≡ Nexts.Loss = search rules in
    Works-loss _ _ _ _ _ _ _ _ sent faults is c.lose_all-end.ensures
