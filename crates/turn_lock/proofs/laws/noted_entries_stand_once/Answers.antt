use Rattle.turn_lock.proofs.LawLemmas.{stand_once}
use Rattle.turn_lock.proofs.laws.noted_entries_stand_once.Goals as goal

pub returns : goal.returns
returns g c = stand_once
