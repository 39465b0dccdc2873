use Rattle.port_spans.proofs.RunLemmas.{are_runs}
use Rattle.port_spans.proofs.spans.Spans.remove.Goals as goal

pub returns-clause-runs : goal.returns-clause-runs
returns-clause-runs g c = are_runs c.remove.new.slots c.remove.new.runs c.remove.ensures.kept
