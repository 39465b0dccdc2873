use Rattle.journal_sides.proofs.SnapshotLaws.{stands_reached, stands_snapshot, stands_started}
use Rattle.journal_sides.proofs.laws.snapshots_take_over.Goals as goal

pub returns : goal.returns
returns c = record { reached = λ s a b stands. (stands_reached c.states_are_sound.ensures.made c.first_states_are_sound.ensures.made s a b stands, stands_started s a b stands); stands = stands_snapshot c.states_are_sound.ensures.made c.first_states_are_sound.ensures.made c.snapshots_stand.ensures }
