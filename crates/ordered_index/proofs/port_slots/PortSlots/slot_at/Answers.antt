use Rattle.std.proofs.Common.{◌≡◌, ◌<◌, ℕ, length, Some, ap, sym, ◌∙◌, arith}
use Rattle.std.specs.Prelude.{slice_index}
use Rattle.std.specs.BTreeMap.{BTreeMap, get}
use Rattle.std.proofs.lemmas.List.{get_or_default}
use Rattle.ordered_index.specs.Orders.{port_at, port_cmp}
use Rattle.ordered_index.specs.PortSlots.{noted, slot_if, slot_of}
use Rattle.ordered_index.proofs.PortLemmas.{told}
use Rattle.ordered_index.proofs.port_slots.PortSlots.slot_at.Goals as goal

pub returns-then-not-contains : goal.returns-then-not-contains
returns-then-not-contains c =
    let p = c.self.inside in
    let place = c.place_at-place.result in
    let port = port_at c.args.port.0 c.args.port.1 in
    ap (λ b. slot_if b (slice_index p.slots.items place)) (sym (sym c.contains.ensures ∙ c.if-not-contains.true))
    ∙ (told p.slots.items p.marks (noted p.map) c.self.invariant place c.place_at-place.ensures.within port c.place_at-place.ensures.port
    ∙ ap (λ (m : BTreeMap (ℕ × ℕ) ℕ). slot_of (get port_cmp m port)) c.self.view_is)

pub returns : goal.returns
returns c =
    let p = c.self.inside in
    let place = c.place_at-place.result in
    let port = port_at c.args.port.0 c.args.port.1 in
    let within : place < length p.slots.items = (let all = c.self.invariant.all in let fits = c.place_at-place.ensures.within in omega (arith, all, fits)) in
    let value : c.from.result ≡ slice_index p.slots.items place = c.from.ensures ∙ (c.index.ensures ∙ get_or_default p.slots.items place c.index.result.now 0 within) in
    ap Some value
    ∙ (ap (λ b. slot_if b (slice_index p.slots.items place)) (sym (sym c.contains.ensures ∙ c.if-not-contains.false))
    ∙ (told p.slots.items p.marks (noted p.map) c.self.invariant place c.place_at-place.ensures.within port c.place_at-place.ensures.port
    ∙ ap (λ (m : BTreeMap (ℕ × ℕ) ℕ). slot_of (get port_cmp m port)) c.self.view_is))
