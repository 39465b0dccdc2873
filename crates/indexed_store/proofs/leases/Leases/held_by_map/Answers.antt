use Rattle.std.proofs.Common.{◌≡◌, ℕ, ◌≤◌, ◌<◌, ◌^◌, length, sym, ap, ◌∙◌, subst, arith}
use Rattle.step_count.specs.Levels.{levels}
use Rattle.pcp_base.specs.Tables.{Table}
use Rattle.indexed_store.specs.Holding.{held_by_map, later_by}
use Rattle.indexed_store.proofs.DropSteps.{maps-most}
use Rattle.indexed_store.proofs.HoldingLemmas.{map_bounds}
use Rattle.indexed_store.proofs.Views.{found_is}
use Rattle.indexed_store.proofs.leases.Leases.held_by_map.Goals as goal

pub returns-clause-value : goal.returns-clause-value
returns-clause-value g c =
    let owner = c.args.owner.now in
    c.later.ensures ∙ ap (λ (n : ℕ). later_by n c.owner_expiry-expiry.result) c.get.ensures.value ∙ ap (later_by c.args.m) c.owner_expiry-expiry.ensures.expiry
    ∙ ap (λ (t : Table). held_by_map c.args.m t.maps owner.protocol owner.external) (found_is c.self.view_is)

pub returns-clause-bounds : goal.returns-clause-bounds
returns-clause-bounds g c =
    let owner = c.args.owner.now in
    let told = returns-clause-value g c in
    let small : c.args.m < 2 ^ 41 = (let bound = c.get.ensures.bound in let value = c.get.ensures.value in omega (arith, bound, value)) in
    subst (λ (n : ℕ). (c.args.m ≤ n) × (n < 2 ^ 41)) (sym told) (map_bounds c.args.self.now.found owner.protocol owner.external c.args.m c.requires small)

pub returns-clause-steps : goal.returns-clause-steps
returns-clause-steps g c =
    let seen : levels (length c.self.inside.maps.found) ≡ levels (length c.args.self.now.found.maps) = ap (λ (t : Table). levels (length t.maps)) (found_is c.self.view_is) in
    let looked = c.owner_expiry-expiry.ensures.steps in let most = maps-most c.levels_grow.ensures c.args.self.now.found c.requires.tabled in
    omega (arith, seen, looked, most)
