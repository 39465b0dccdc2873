use Rattle.std.proofs.Common.{List, ℕ, length, slice_set, sym, ap, ◌∙◌, arith}
use Rattle.std.proofs.lemmas.List.{with_items_is}
use Rattle.expiry_wheel.specs.Blocks.{leasts_in}
use Rattle.expiry_wheel.proofs.LeastLists.{leasts_all}
use Rattle.expiry_wheel.proofs.leasts.Leasts.set.Goals as goal

pub set-requires-clause-block : goal.set-requires-clause-block
set-requires-clause-block g c =
    omega (arith, c.requires, sym (ap length c.self.view_is) ∙ leasts_all c.self.inside.levels c.self.inside.nodes.items c.self.invariant)

pub invariant_of-self : goal.invariant_of-self
invariant_of-self g c =
    let v = c.self.inside.nodes in
    let nodes = c.set.new.nodes in
    rw (with_items_is v nodes (c.set.ensures.nodes.places ∙ sym (v.ok.0 ∙ c.self.invariant.places))) c.set.ensures.nodes

pub returns-clause-set : goal.returns-clause-set
returns-clause-set g c =
    let v = c.self.inside.nodes in
    let nodes = c.set.new.nodes in
    rw (with_items_is v nodes (c.set.ensures.nodes.places ∙ sym (v.ok.0 ∙ c.self.invariant.places)))
    (c.set.ensures.set ∙ ap (λ (xs : List ℕ). slice_set (leasts_in c.self.inside.levels xs) c.args.block c.args.least) c.deref_mut.ensures.value
    ∙ ap (λ (xs : List ℕ). slice_set xs c.args.block c.args.least) c.self.view_is)

pub returns-clause-steps : goal.returns-clause-steps
returns-clause-steps g c = omega (arith, c.set.ensures.cost, c.self.invariant.few)
