use Rattle.turn_lock.specs.Marks.{added_noted, stands_noted}
use Rattle.turn_lock.proofs.LawLemmas.{go_on}
use Rattle.turn_lock.proofs.laws.tickets_go_on.Goals as goal

pub returns : goal.returns
returns g c key = go_on (stands_noted (g.V.Kept.stands key)) (added_noted g.V.Kept.added g.V.Kept.mark)
