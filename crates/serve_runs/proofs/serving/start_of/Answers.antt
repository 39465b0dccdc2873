use Rattle.serve_runs.proofs.ServingLemmas.{gives-start}
use Rattle.serve_runs.proofs.serving.start_of.Goals as goal

pub returns-clause-start : goal.returns-clause-start
returns-clause-start g c = gives-start g.T.Clock.times _ _ _ _ c.now.result _
    c.in-Some.ensures.cases.0 c.now.ensures.time c.moment_of.ensures
