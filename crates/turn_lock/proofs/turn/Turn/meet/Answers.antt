use Rattle.std.proofs.Common.{◌≡◌, ◌<◌, false, rules, ap, sym, subst, ◌∙◌}
use mathlib.Core.Option.{none}
use Rattle.atomic_table.specs.Table.{step}
use Rattle.turn_lock.specs.Passes.{carried_slots}
use mathlib.Core.List.{IsPrefix}
use Rattle.turn_lock.specs.Lengths.{longer, shorter}
use Rattle.turn_lock.specs.Marks.{added_noted, noted_entries, stands_noted}
use Rattle.turn_lock.proofs.Marked.{both_begin, prefix_mapped}
use Rattle.turn_lock.proofs.Steps.{joins, learns}
use Rattle.turn_lock.proofs.turn.Turn.meet.Goals as goal

pub join_seat-requires : goal.join_seat-requires
join_seat-requires g c =
    let i = c.pass.invariant in
    let k = c.other.invariant in
    let rests : c.pass.inside.seat.me.0.out ≡ false = search rules in
    let theirs : c.other.inside.seat.me.0.out ≡ false = search rules in
    (search rules, search rules, k.carries ∙ ap carried_slots theirs, search rules, joins (stands_noted (g.V.Kept.stands c.self.inside.table.shared.key)) (added_noted g.V.Kept.added g.V.Kept.mark) _ _ _ _ (i.rests ∙ rests) rests (subst (λ n. 0 < n) i.room_is i.some) (k.rests ∙ theirs) theirs)

pub load-requires : goal.load-requires
load-requires g c =
    let i = c.pass.invariant in
    let rests : c.pass.inside.seat.me.0.out ≡ false = search rules in
    let now = c.join_seat.ensures.2 in
    (search rules, search rules, learns (stands_noted (g.V.Kept.stands c.self.inside.table.shared.key)) (added_noted g.V.Kept.added g.V.Kept.mark) _ _ _ (step 0 0 0 0 none) (ap (λ m. m.0.waits) now ∙ (i.rests ∙ rests)) (ap (λ m. m.0.out) now ∙ rests))

pub returns-clause-begins : goal.returns-clause-begins
returns-clause-begins g c =
    let v = c.pass.inside.seat.me.0 in
    let w = c.other.inside.seat.me.0 in
    let now = c.load.new.seat.me.0 in
    let seen : now.seen ≡ longer v.seen w.seen = search rules in
    let heard : IsPrefix (shorter v.seen w.seen) (longer v.seen w.seen) =
    subst (λ m. IsPrefix m.0.told m.0.seen) c.join_seat.ensures.2 c.load.ensures.2.1.begins in
    let both = both_begin v.seen w.seen heard in
    let ours : noted_entries v.seen ≡ c.args.pass.now.seen = search rules in
    let theirs : noted_entries w.seen ≡ c.args.other.seen = search rules in (
      subst (λ l. IsPrefix l (noted_entries now.seen)) ours
          (prefix_mapped (λ n. n.entry) v.seen now.seen (subst (IsPrefix v.seen) (sym seen) both.0)),
      subst (λ l. IsPrefix l (noted_entries now.seen)) theirs
          (prefix_mapped (λ n. n.entry) w.seen now.seen (subst (IsPrefix w.seen) (sym seen) both.1)),
    )
