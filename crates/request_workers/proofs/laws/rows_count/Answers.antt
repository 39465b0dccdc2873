use Rattle.request_workers.proofs.CountLemmas.{rows_count}
use Rattle.request_workers.proofs.laws.rows_count.Goals as goal

pub returns : goal.returns
returns g c = rows_count (g.H.JobHouse.calls c.args.house.now)
