use Rattle.port_spans.proofs.RunLemmas.{are_runs}
use Rattle.port_spans.proofs.spans.Spans.cut.Goals as goal

pub returns-clause-runs : goal.returns-clause-runs
returns-clause-runs g c = are_runs c.cut.new.slots c.cut.new.runs c.cut.ensures.kept
