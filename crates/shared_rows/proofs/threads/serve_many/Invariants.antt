use Rattle.shared_rows.specs.Passes.{Follows}
use Rattle.shared_rows.proofs.threads.serve_many.Given as goal

abbrev pub invariant-loop-i : goal.invariant-loop-i
invariant-loop-i g l = Follows l.house l.initial.pass l.pass
