use Rattle.std.proofs.Common.{◌≡◌, ◌<◌, ℕ, length, Some, None, subst, sym, ◌∙◌, arith}
use Rattle.std.specs.Prelude.{slice_index}
use Rattle.std.specs.BTreeMap.{BTreeMap}
use Rattle.std.proofs.lemmas.List.{get_or_default}
use Rattle.ordered_index.specs.Orders.{port_at}
use Rattle.ordered_index.specs.PortSlots.{IsLastSlot, noted}
use Rattle.ordered_index.proofs.PortLemmas.{no_last, some_last}
use Rattle.ordered_index.proofs.port_slots.PortSlots.last_slot.Goals as goal

pub returns-in_default : goal.returns-in_default
returns-in_default c =
    let p = c.self.inside in
    let port = port_at c.args.port.0 c.args.port.1 in
    subst (λ (m : BTreeMap (ℕ × ℕ) ℕ). IsLastSlot m port None) c.self.view_is
    (no_last p.slots.items p.marks (noted p.map) c.self.invariant c.place_at.result c.place_at.ensures.within port c.place_at.ensures.port c.in_default.ensures)

pub returns : goal.returns
returns c =
    let p = c.self.inside in
    let place = c.in-Some.place in
    let port = port_at c.args.port.0 c.args.port.1 in
    let within : place < length p.slots.items = (let all = c.self.invariant.all in let fits = c.place_at.ensures.within in let up = c.in-Some.ensures.up_to in omega (arith, all, fits, up)) in
    let value : c.from.result ≡ slice_index p.slots.items place = c.from.ensures ∙ (c.index.ensures ∙ get_or_default p.slots.items place c.index.result.now 0 within) in
    subst (λ (m : BTreeMap (ℕ × ℕ) ℕ). IsLastSlot m port (Some c.from.result)) c.self.view_is
    (subst (λ (s : ℕ). IsLastSlot (noted p.map) port (Some s)) (sym value)
    (some_last p.slots.items p.marks (noted p.map) c.self.invariant c.place_at.result c.place_at.ensures.within port c.place_at.ensures.port place c.in-Some.ensures))
