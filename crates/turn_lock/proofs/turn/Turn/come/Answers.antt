use Rattle.std.proofs.Common.{◌∷◌, Some, rules, sym, ap, ◌∙◌}
use mathlib.Core.Option.{none}
use Rattle.atomic_table.specs.Table.{step, rest}
use Rattle.turn_lock.specs.Marks.{added_noted, stands_noted}
use Rattle.turn_lock.proofs.Steps.{looks_named}
use Rattle.turn_lock.proofs.turn.Turn.come.Goals as goal

pub load-requires : goal.load-requires
load-requires g c =
    let i = c.requires.waiting in
    (search rules, search rules, looks_named (λ k. stands_noted (g.V.Kept.stands k)) (added_noted g.V.Kept.added g.V.Kept.mark) c.self.inside.table.shared.key g.B.Naming.key _ _ _ (step 0 0 0 0 none) (search rules) i.waits i.home)

pub exchange-value-requires : goal.exchange-value-requires
exchange-value-requires g c =
    let i = c.requires.waiting in
    let came = c.load.ensures.2.0 (c.if-load-ticket.false ∙ i.ticket_is) in
    let has = ap (λ m. m.1) came.next in
    (search rules, (Some came.value, has ∙ (λ k. (0, Some came.value) ∷ sym (ap rest has) k)))
