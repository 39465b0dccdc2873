use Rattle.std.proofs.Common.{◌≡◌, length, sym, ap, ◌∙◌}
use Rattle.std.proofs.lemmas.List.{with_items_is}
use Rattle.expiry_wheel.specs.Moments.{expiries_by}
use Rattle.expiry_wheel.proofs.Moments.{expiries_none}
use Rattle.expiry_wheel.proofs.BlockMoments.{wheel_blank}
use Rattle.expiry_wheel.proofs.wheel.Wheel.clear.Goals as goal

pub invariant_of-self : goal.invariant_of-self
invariant_of-self c =
    let v = c.self.inside.moments in
    let long : length c.wipe.new.cells ≡ length v.items = c.wipe.ensures.len ∙ ap length c.deref_mut.ensures.value in
    rw (with_items_is v c.wipe.new.cells (long ∙ sym v.ok.0), c.clear.ensures)
    (wheel_blank c.wipe.new.cells (length c.self.inside.leasts) (long ∙ c.self.invariant.ids) c.self.invariant.blocks.all c.wipe.ensures.never)

pub returns : goal.returns
returns c =
    let v = c.self.inside.moments in
    let long : length c.wipe.new.cells ≡ length v.items = c.wipe.ensures.len ∙ ap length c.deref_mut.ensures.value in
    ap expiries_by (with_items_is v c.wipe.new.cells (long ∙ sym v.ok.0)) ∙ expiries_none c.wipe.new.cells c.wipe.ensures.never
