use Rattle.std.proofs.Common.{◌≤◌}
use Rattle.slab.specs.Slab.{values}
use Rattle.port_spans.proofs.RunLemmas.{NoneBegins}
use Rattle.port_spans.proofs.steps.first_run.Given as goal

abbrev pub invariant-loop-at : goal.invariant-loop-at
invariant-loop-at g l = (l.place ≤ l.at) × NoneBegins (values l.runs) l.place l.at
