use Rattle.std.proofs.Common.{◌≡◌, length, sym, ap, ◌∙◌}
use Rattle.std.proofs.lemmas.List.{with_items_is}
use Rattle.expiry_wheel.proofs.LeastLists.{nodes_blank, leasts_blank, leasts_all}
use Rattle.expiry_wheel.proofs.leasts.Leasts.clear.Goals as goal

pub invariant_of-self : goal.invariant_of-self
invariant_of-self c =
    let v = c.self.inside.nodes in
    let n = c.self.inside.levels in
    let long : length c.wipe.new.cells ≡ length v.items = c.wipe.ensures.len ∙ ap length c.deref_mut.ensures.value in
    rw (with_items_is v c.wipe.new.cells (long ∙ sym v.ok.0))
    (nodes_blank n c.wipe.new.cells c.self.invariant.few (long ∙ c.self.invariant.places) c.wipe.ensures.never)

pub returns : goal.returns
returns c =
    let v = c.self.inside.nodes in
    let n = c.self.inside.levels in
    let long : length c.wipe.new.cells ≡ length v.items = c.wipe.ensures.len ∙ ap length c.deref_mut.ensures.value in
    rw (with_items_is v c.wipe.new.cells (long ∙ sym v.ok.0))
    (leasts_blank n c.wipe.new.cells c.self.invariant.few (long ∙ c.self.invariant.places) c.wipe.ensures.never
    (length c.args.self.now) (sym (ap length c.self.view_is) ∙ leasts_all n v.items c.self.invariant))
