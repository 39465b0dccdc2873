use Rattle.external_pool.specs.PortUses.{all_free}
use Rattle.external_pool.proofs.lean_side.none_noted.Given as goal

abbrev pub ghosts-note_none_as : goal.ghosts-note_none_as
ghosts-note_none_as a = record { items = all_free 65536 }
