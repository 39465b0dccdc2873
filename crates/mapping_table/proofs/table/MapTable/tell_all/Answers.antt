use Rattle.std.proofs.Common.{◌≡◌, ◌≤◌, List, ℕ, length, ap, subst, arith}
use Rattle.std.proofs.lemmas.List.{length-map}
use Rattle.pcp_base.specs.declared.leases.MapLease.{MapLease}
use Rattle.ordered_index.specs.Aged.{Aged, AreTogether}
use Rattle.mapping_table.proofs.AgedMaps.{maps_together}
use Rattle.mapping_table.proofs.Views.{past_is}
use Rattle.mapping_table.proofs.table.MapTable.tell_all.Goals as goal

pub returns-clause-together : goal.returns-clause-together
returns-clause-together c =
    let t = c.self.inside in
    subst (λ (v : Aged MapLease). AreTogether v) c.self.view_is (maps_together t.leases t.filters t.past c.tell_order.ensures.ordered c.self.invariant.apart)

pub returns-clause-few : goal.returns-clause-few
returns-clause-few c =
    let t = c.self.inside in
    let seen = ap (λ (v : List MapLease). length v) (past_is c.self.view_is) in
    let long = length-map t.past.entries (λ (e : ℕ × MapLease). e.1) in
    let few = c.self.invariant.few in
    omega (arith, seen, long, few)
