use Rattle.std.proofs.Common.{ℕ, List, not, filter, sym, ap, ◌∙◌, subst}
use Rattle.std.specs.BTreeMap.{values}
use Rattle.pcp_base.specs.declared.leases.MapLease.{MapLease}
use Rattle.pcp_base.specs.Tables.{first_endpoint, is_map_of}
use Rattle.ordered_index.specs.Orders.{port_at}
use Rattle.mapping_table.specs.Kept.{SievesMaps}
use Rattle.mapping_table.proofs.MapKeeping.{map_removed}
use Rattle.mapping_table.proofs.Numberings.{number_under, removes_seen}
use Rattle.mapping_table.proofs.Sets.{removed_few, counted_removed}
use Rattle.mapping_table.proofs.Sieving.{sieved_removed}
use Rattle.mapping_table.proofs.Views.{values_is, next_is, number_is}
use Rattle.mapping_table.proofs.bare_table.BareTable.take.Goals as goal

pub overflow_sub-self : goal.overflow_sub-self
overflow_sub-self g c =
    removed_few c.self.inside.kept c.self.inside.sets c.self.invariant.counted c.forget.new.self c.args.number c.args.lease.now (number_is c.self.view_is c.args.number ∙ c.requires) c.sets.result c.sets.ensures

pub invariant_of-self : goal.invariant_of-self
invariant_of-self g c =
    let t = c.self.inside.kept in let kept = c.self.invariant.counted.kept in let n = c.args.number in let x = c.args.lease.now in
    let at_n = number_is c.self.view_is n ∙ c.requires in
    let number = number_under t kept n x at_n c.place-place.result c.place-place.ensures in
    let removed = map_removed t kept (first_endpoint x) c.place-place.result c.place-place.ensures c.forget.new.self (port_at c.port.result.0 c.port.result.1) n x c.port.ensures number at_n c.forget.ensures in
    record {
      counted = counted_removed t c.self.inside.sets c.self.invariant.counted c.forget.new.self n x at_n c.sets.result c.sets.ensures removed.0 c.forget.ensures.leases;
      sieved = subst (λ (s : List ℕ). SievesMaps s (values c.forget.new.self.leases)) (sym c.take-2.ensures)
          (sieved_removed t c.self.inside.sieve c.self.invariant.sieved c.forget.new.self n x at_n kept c.forget.ensures.leases c.place-place.result number);
    }

pub returns-clause-leases : goal.returns-clause-leases
returns-clause-leases g c =
    removes_seen c.self.inside.kept.leases c.forget.new.self.leases c.args.self.now c.self.inside.kept.next c.forget.new.self.next c.args.number c.forget.ensures.leases c.self.view_is

pub returns-clause-removed : goal.returns-clause-removed
returns-clause-removed g c =
    let t = c.self.inside.kept in let kept = c.self.invariant.counted.kept in let n = c.args.number in let x = c.args.lease.now in
    let at_n = number_is c.self.view_is n ∙ c.requires in
    let number = number_under t kept n x at_n c.place-place.result c.place-place.ensures in
    (map_removed t kept (first_endpoint x) c.place-place.result c.place-place.ensures c.forget.new.self (port_at c.port.result.0 c.port.result.1) n x c.port.ensures number at_n c.forget.ensures).1.removed
    ∙ ap (filter (λ (l : MapLease). not (is_map_of (first_endpoint x) l))) (values_is c.self.view_is)
