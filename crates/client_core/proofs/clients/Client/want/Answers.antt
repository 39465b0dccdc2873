use Rattle.std.specs.Prelude.{is_none, position}
use Rattle.std.proofs.Common.{◌≡◌, ◌<◌, Some, None, ap, sym, ◌∙◌, subst, rules, arith}
use Rattle.client_core.specs.Clients.{want_count, want_count_in}
use Rattle.client_core.proofs.SlotLemmas.{full-count, room-count}
use Rattle.client_core.proofs.clients.Client.want.Goals as goal

pub returns-in_default-clause-full : goal.returns-in_default-clause-full
returns-in_default-clause-full c =
    let xs = c.self.inside.slots.items in
    let none : position is_none xs ≡ None = search rules in
    ap want_count (sym c.self.view_is) ∙ full-count xs none ∙ c.self.invariant.room

pub returns-clause-room : goal.returns-clause-room
returns-clause-room c =
    let xs = c.self.inside.slots.items in
    let id : position is_none xs ≡ Some c.in-Some.id = search rules in
    let less = room-count xs c.in-Some.id id in
    let few : want_count_in xs < 64 = omega (arith, less, c.self.invariant.room) in
    subst (λ client. want_count client < 64) c.self.view_is few
