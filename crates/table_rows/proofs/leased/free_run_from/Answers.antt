use Rattle.std.proofs.lemmas.Result.{on_ok_weaker}
use Rattle.table_rows.proofs.leased.free_run_from.Goals as goal

pub returns : goal.returns
returns g c = on_ok_weaker c.free_run.result (λ only. only.reached) c.free_run.ensures.ok
