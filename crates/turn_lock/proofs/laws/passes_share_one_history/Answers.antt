use Rattle.turn_lock.specs.Marks.{added_noted, stands_noted}
use Rattle.turn_lock.proofs.LawLemmas.{share_history, share_no_place}
use Rattle.turn_lock.proofs.laws.passes_share_one_history.Goals as goal

pub returns-clause-history : goal.returns-clause-history
returns-clause-history g c key = share_history (stands_noted (g.V.Kept.stands key)) (added_noted g.V.Kept.added g.V.Kept.mark)

pub returns-clause-places : goal.returns-clause-places
returns-clause-places g c key = share_no_place (stands_noted (g.V.Kept.stands key)) (added_noted g.V.Kept.added g.V.Kept.mark)
