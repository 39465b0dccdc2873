use Rattle.std.proofs.Common.{◌≡◌, length, true, rules, ap, ◌∙◌}
use Rattle.std.proofs.lemmas.List.{length-map}
use mathlib.Core.Option.{none}
use Rattle.atomic_table.specs.Table.{step}
use Rattle.turn_lock.specs.Marks.{added_noted, stands_noted, with_mark}
use Rattle.turn_lock.specs.Passes.{after_note, knowledge_of}
use Rattle.turn_lock.specs.Views.{noting_view}
use Rattle.turn_lock.proofs.Marked.{notes_after}
use Rattle.turn_lock.proofs.Steps.{notes}
use Rattle.turn_lock.proofs.turn.Turn.note_own.Goals as goal

pub fetch_add-requires : goal.fetch_add-requires
fetch_add-requires g c =
    let i = c.pass.invariant in
    let out : c.pass.inside.seat.me.0.out ≡ true = search rules in
    (search rules, search rules, notes (stands_noted (g.V.Kept.stands c.self.inside.table.shared.key)) (added_noted g.V.Kept.added g.V.Kept.mark) _ _ _ _ true g.B.Noting.entries (step 0 0 0 0 none) (ap length c.requires.entries ∙ (length-map (g.V.Kept.added c.args.value.now) (λ e. record { entry = e; mark = g.V.Kept.mark c.args.value.now }) ∙ (c.requires.count ∙ search rules))) (i.rests ∙ out) out)

pub returns : goal.returns
returns g c =
    let v = c.pass.inside.seat.me.0 in
    let xs = g.V.Kept.added c.args.value.now in
    let mark = g.V.Kept.mark c.args.value.now in
    let turn = c.pass.inside.seat.table_id in
    let new : c.fetch_add.new.seat.me.0 ≡ noting_view true (with_mark mark xs) v = search rules in
    let home : c.fetch_add.new.seat.table_id ≡ turn = search rules in
    let was : knowledge_of turn v ≡ c.args.pass.now = search rules in
    ap (λ i. knowledge_of i c.fetch_add.new.seat.me.0) home ∙ (ap (knowledge_of turn) new
    ∙ (notes_after turn true xs mark v ∙ ap (after_note true xs mark) was))
