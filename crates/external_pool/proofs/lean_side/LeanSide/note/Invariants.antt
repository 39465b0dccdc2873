use Rattle.external_pool.specs.PortUses.{with_run}
use Rattle.external_pool.proofs.lean_side.LeanSide.note.Given as goal

abbrev pub ghosts-note_as : goal.ghosts-note_as
ghosts-note_as a = record { items = with_run a.start a.n a.value a.each.now }
