use Rattle.std.proofs.Common.{◌≡◌, [], false, Some, refl, rules, subst}
use Rattle.turn_lock.specs.declared.layout.TheConstants.{FIRST_ROOM}
use Rattle.turn_lock.specs.Marks.{added_noted, noted_entries, noted_marks, stands_noted}
use Rattle.turn_lock.proofs.Marked.{none_with}
use Rattle.turn_lock.proofs.Steps.{ends}
use Rattle.turn_lock.proofs.turn.Turn.into_value.Goals as goal

pub unwrap-requires : goal.unwrap-requires
unwrap-requires g c =
    let home : c.pass.inside.seat.me.0.out ≡ false = search rules in
    let whole : c.pass.inside.seat.me.0.room ≡ FIRST_ROOM = search rules in
    let e = ends (stands_noted (g.V.Kept.stands c.self.inside.table.shared.key)) (added_noted g.V.Kept.added g.V.Kept.mark) _ _ _ _ _ c.close_with.ensures.values.2 whole home c.only_slot-value.ensures in
    rw (e.1) refl

pub returns-clause-value : goal.returns-clause-value
returns-clause-value g c =
    let home : c.pass.inside.seat.me.0.out ≡ false = search rules in
    let whole : c.pass.inside.seat.me.0.room ≡ FIRST_ROOM = search rules in
    let e = ends (stands_noted (g.V.Kept.stands c.self.inside.table.shared.key)) (added_noted g.V.Kept.added g.V.Kept.mark) _ _ _ _ _ c.close_with.ensures.values.2 whole home c.only_slot-value.ensures in
    let same : e.0 ≡ c.unwrap.result = cc (e.1, c.unwrap.ensures) in
    let key : c.self.inside.table.shared.key ≡ c.args.self.key = search rules in
    let seen : noted_entries c.pass.inside.seat.me.0.seen ≡ c.args.pass.seen = search rules in
    let marks : noted_marks c.pass.inside.seat.me.0.seen ≡ c.args.pass.marks = search rules in
    subst (λ k. g.V.Kept.stands k c.unwrap.result c.args.pass.seen c.args.pass.marks) key
    (subst (λ l. g.V.Kept.stands c.self.inside.table.shared.key c.unwrap.result c.args.pass.seen l) marks
    (subst (λ l. g.V.Kept.stands c.self.inside.table.shared.key c.unwrap.result l (noted_marks c.pass.inside.seat.me.0.seen)) seen
    (subst (λ x. stands_noted (g.V.Kept.stands c.self.inside.table.shared.key) x c.pass.inside.seat.me.0.seen) same e.2)))

pub returns-clause-added : goal.returns-clause-added
returns-clause-added g c =
    let home : c.pass.inside.seat.me.0.out ≡ false = search rules in
    let whole : c.pass.inside.seat.me.0.room ≡ FIRST_ROOM = search rules in
    let e = ends (stands_noted (g.V.Kept.stands c.self.inside.table.shared.key)) (added_noted g.V.Kept.added g.V.Kept.mark) _ _ _ _ _ c.close_with.ensures.values.2 whole home c.only_slot-value.ensures in
    let same : e.0 ≡ c.unwrap.result = cc (e.1, c.unwrap.ensures) in
    subst (λ x. g.V.Kept.added x ≡ []) same (none_with (g.V.Kept.mark e.0) (g.V.Kept.added e.0) e.3)
