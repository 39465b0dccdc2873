use Rattle.std.proofs.Common.{◌≡◌, false, rules, ◌∙◌}
use Rattle.turn_lock.specs.Marks.{added_noted, stands_noted}
use Rattle.turn_lock.proofs.Steps.{splits}
use Rattle.turn_lock.proofs.turn.Turn.split.Goals as goal

pub split_seat-seat-requires : goal.split_seat-seat-requires
split_seat-seat-requires g c =
    let i = c.pass.invariant in
    let rests : c.pass.inside.seat.me.0.out ≡ false = search rules in
    (search rules, search rules, splits (stands_noted (g.V.Kept.stands c.self.inside.table.shared.key)) (added_noted g.V.Kept.added g.V.Kept.mark) _ _ (i.rests ∙ rests) rests)
