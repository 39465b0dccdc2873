use Rattle.std.proofs.Common.{ap}
use Rattle.leased_ports.specs.Leased.{Leased}
use Rattle.table_rows.proofs.leased.pick_from.Goals as goal

pub returns : goal.returns
returns g c = ap (λ (v : Leased). v.reached) c.pick.ensures.moved
