use Rattle.port_spans.proofs.RunLemmas.{are_runs}
use Rattle.port_spans.proofs.spans.Spans.insert.Goals as goal

pub returns-clause-runs : goal.returns-clause-runs
returns-clause-runs g c = are_runs c.put.new.slots c.put.new.runs c.put.ensures.kept
