use Rattle.std.proofs.Common.{rules}
use mathlib.Core.Option.{none}
use Rattle.atomic_table.specs.Table.{step}
use Rattle.turn_lock.specs.Marks.{added_noted, stands_noted}
use Rattle.turn_lock.proofs.Steps.{draws}
use Rattle.turn_lock.proofs.turn.Turn.draw.Goals as goal

pub fetch_add-requires : goal.fetch_add-requires
fetch_add-requires g c =
    let i = c.requires.idle in
    (search rules, search rules, draws (stands_noted (g.V.Kept.stands c.self.inside.table.shared.key)) (added_noted g.V.Kept.added g.V.Kept.mark) _ _ _ (step 0 0 0 0 none) i.rests i.home i.room)
