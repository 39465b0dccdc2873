use Rattle.std.proofs.lemmas.Result.{on_ok_weaker}
use Rattle.table_rows.proofs.leased.put_from.Goals as goal

pub returns : goal.returns
returns g c = on_ok_weaker c.put.result (λ only. only.reached) c.put.ensures.ok
