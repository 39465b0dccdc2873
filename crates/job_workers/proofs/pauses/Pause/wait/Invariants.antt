use Rattle.job_workers.proofs.pauses.Pause.wait.Given as goal

abbrev pub decreases-loop-left : goal.decreases-loop-left
decreases-loop-left l = l.left
