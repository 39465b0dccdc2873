use Rattle.std.proofs.Common.{◌≡◌, ◌∷◌, [], true, Some, rules, sym, ap, ◌∙◌, subst}
use mathlib.Core.Option.{none}
use Rattle.atomic_table.specs.Table.{step, rest}
use Rattle.turn_lock.specs.Passes.{carried_slots}
use Rattle.turn_lock.specs.Marks.{added_noted, noted_entries, noted_marks, stands_noted, with_mark}
use Rattle.turn_lock.proofs.Steps.{gives_back}
use Rattle.turn_lock.proofs.turn.Turn.give.Goals as goal

pub fetch_add-requires : goal.fetch_add-requires
fetch_add-requires g c =
    let i = c.pass.invariant in
    let out : c.pass.inside.seat.me.0.out ≡ true = search rules in
    let clean : g.V.Kept.added c.held.inside.value ≡ [] = search rules in
    let stands : g.V.Kept.stands c.self.inside.table.shared.key c.held.inside.value
    (noted_entries c.pass.inside.seat.me.0.seen) (noted_marks c.pass.inside.seat.me.0.seen) = search rules in
    let now = c.exchange-out.ensures.3 in (
      search rules,
      search rules,
      gives_back (stands_noted (g.V.Kept.stands c.self.inside.table.shared.key)) (added_noted g.V.Kept.added g.V.Kept.mark) _ _ _ c.held.inside.value (step 0 0 0 0 none) (ap (λ m. m.1) now ∙ ap (λ l. (0, Some c.held.inside.value) ∷ rest l) (i.carries ∙ ap carried_slots out)) (ap (λ m. m.0.waits) now ∙ (i.rests ∙ out)) (ap (λ m. m.0.out) now ∙ out)
          (subst (λ m. stands_noted (g.V.Kept.stands c.self.inside.table.shared.key) c.held.inside.value m.0.seen) (sym now) stands) (ap (with_mark (g.V.Kept.mark c.held.inside.value)) clean),
    )
