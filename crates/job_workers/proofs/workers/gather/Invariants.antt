use Rattle.std.proofs.Common.{◌-◌, length}
use Rattle.job_queue.specs.declared.batches.TheConstants.{MOST_BATCH}
use Rattle.job_workers.proofs.GatherLemmas.{IsGathering}
use Rattle.job_workers.proofs.workers.gather.Given as goal

abbrev pub invariant-loop-taker : goal.invariant-loop-taker
invariant-loop-taker g l = IsGathering l.queue l.fn.taker l.taker l.batch

abbrev pub decreases-loop-taker : goal.decreases-loop-taker
decreases-loop-taker g l = MOST_BATCH - length l.batch
