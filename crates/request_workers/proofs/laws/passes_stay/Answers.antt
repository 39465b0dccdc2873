use Rattle.request_workers.proofs.PassLemmas.{passes_stay}
use Rattle.request_workers.proofs.laws.passes_stay.Goals as goal

pub returns : goal.returns
returns g c = passes_stay (g.H.JobHouse.calls c.args.house.now)
