use Rattle.port_spans.proofs.RunLemmas.{are_runs}
use Rattle.port_spans.proofs.spans.Spans.set_value.Goals as goal

pub returns-clause-runs : goal.returns-clause-runs
returns-clause-runs g c = are_runs c.deref.result.now c.set_value.new.runs c.set_value.ensures.kept
