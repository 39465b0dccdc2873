use Rattle.std.proofs.Common.{rules, ◌≡◌, ℕ, Some, Ok, IsSome, subst, sym, ap, ◌∙◌}
use Rattle.std.specs.Prelude.{⊤}
use Rattle.std.specs.Ordering.{nat_cmp}
use Rattle.std.specs.BTreeMap.{BTreeMap, get}
use Rattle.pcp_base.specs.declared.errors.Memory.{Memory}
use Rattle.pcp_base.specs.declared.leases.MapLease.{MapLease}
use Rattle.ordered_index.specs.Orders.{port_at}
use Rattle.ordered_index.proofs.Keeping.{port-there}
use Rattle.mapping_table.specs.Kept.{place_of_lease, map_keying}
use Rattle.mapping_table.proofs.MapKeeping.{map_laws, place_has, map_replaced}
use Rattle.mapping_table.proofs.Sets.{counted_replaced, replaced_few}
use Rattle.mapping_table.proofs.Numberings.{numbers_replaced}
use Rattle.mapping_table.proofs.Sieving.{sieved_as_many}
use Rattle.mapping_table.proofs.changes.replace.Goals as goal

pub index-requires : goal.index-requires
index-requires g c =
    subst (λ (m : BTreeMap ℕ MapLease). IsSome (get nat_cmp m c.args.number)) (sym c.leases.ensures)
    (place_has c.args.kept.now c.requires.counted.kept (place_of_lease c.args.lease) c.args.number c.requires.key)

pub replace-requires-clause-there : goal.replace-requires-clause-there
replace-requires-clause-there g c = place_has c.args.kept.now c.requires.counted.kept (place_of_lease c.args.lease) c.args.number c.requires.key

pub replace-requires-clause-port : goal.replace-requires-clause-port
replace-requires-clause-port g c =
    let read : get nat_cmp c.leases.result.now c.args.number ≡ Some c.index.result.now = search rules in
    let at_n : get nat_cmp c.args.kept.now.leases c.args.number ≡ Some c.index.result.now = ap (λ (m : BTreeMap ℕ MapLease). get nat_cmp m c.args.number) (sym c.leases.ensures) ∙ read in
    port-there map_keying map_laws c.args.kept.now c.requires.counted.kept.kept c.args.number c.index.result.now (port_at c.port.result.0 c.port.result.1) at_n c.port.ensures

pub overflow_sub-sets : goal.overflow_sub-sets
overflow_sub-sets g c =
    let read : get nat_cmp c.leases.result.now c.args.number ≡ Some c.index.result.now = search rules in
    let at_n : get nat_cmp c.args.kept.now.leases c.args.number ≡ Some c.index.result.now = ap (λ (m : BTreeMap ℕ MapLease). get nat_cmp m c.args.number) (sym c.leases.ensures) ∙ read in
    replaced_few c.args.kept.now c.args.sets.now c.requires.counted c.replace.new.self c.args.lease c.args.number c.index.result.now c.requires.key at_n c.sets.result c.sets-2.result c.sets-2.ensures

pub returns-clause-put : goal.returns-clause-put
returns-clause-put g c =
    let read : get nat_cmp c.leases.result.now c.args.number ≡ Some c.index.result.now = search rules in
    let at_n : get nat_cmp c.args.kept.now.leases c.args.number ≡ Some c.index.result.now = ap (λ (m : BTreeMap ℕ MapLease). get nat_cmp m c.args.number) (sym c.leases.ensures) ∙ read in
    (map_replaced c.args.kept.now c.requires.counted.kept c.args.lease c.requires.sound {X = ⊤} {E = Memory} c.replace.new.self (Ok tt)
    c.args.number c.index.result.now (port_at c.port.result.0 c.port.result.1) (port_at c.port-2.result.0 c.port-2.result.1) c.requires.key at_n c.port.ensures c.port-2.ensures c.replace.ensures tt).1.ok

pub returns-clause-counted : goal.returns-clause-counted
returns-clause-counted g c =
    let read : get nat_cmp c.leases.result.now c.args.number ≡ Some c.index.result.now = search rules in
    let at_n : get nat_cmp c.args.kept.now.leases c.args.number ≡ Some c.index.result.now = ap (λ (m : BTreeMap ℕ MapLease). get nat_cmp m c.args.number) (sym c.leases.ensures) ∙ read in
    let put = map_replaced c.args.kept.now c.requires.counted.kept c.args.lease c.requires.sound {X = ⊤} {E = Memory} c.replace.new.self (Ok tt)
    c.args.number c.index.result.now (port_at c.port.result.0 c.port.result.1) (port_at c.port-2.result.0 c.port-2.result.1) c.requires.key at_n c.port.ensures c.port-2.ensures c.replace.ensures tt in
    counted_replaced c.args.kept.now c.args.sets.now c.requires.counted c.replace.new.self c.args.lease c.args.number c.index.result.now c.requires.key at_n put.0 put.1.ok
    c.sets.result c.sets-2.result c.sets.ensures c.sets-2.ensures

pub returns-clause-sieved : goal.returns-clause-sieved
returns-clause-sieved g c =
    let read : get nat_cmp c.leases.result.now c.args.number ≡ Some c.index.result.now = search rules in
    let at_n : get nat_cmp c.args.kept.now.leases c.args.number ≡ Some c.index.result.now = ap (λ (m : BTreeMap ℕ MapLease). get nat_cmp m c.args.number) (sym c.leases.ensures) ∙ read in
    let put = map_replaced c.args.kept.now c.requires.counted.kept c.args.lease c.requires.sound {X = ⊤} {E = Memory} c.replace.new.self (Ok tt)
    c.args.number c.index.result.now (port_at c.port.result.0 c.port.result.1) (port_at c.port-2.result.0 c.port-2.result.1) c.requires.key at_n c.port.ensures c.port-2.ensures c.replace.ensures tt in
    λ sieve sieved. sieved_as_many c.args.kept.now c.requires.counted.kept sieve sieved c.replace.new.self c.args.lease put.1.ok c.args.number c.requires.key

pub returns-clause-numbers : goal.returns-clause-numbers
returns-clause-numbers g c =
    let read : get nat_cmp c.leases.result.now c.args.number ≡ Some c.index.result.now = search rules in
    let at_n : get nat_cmp c.args.kept.now.leases c.args.number ≡ Some c.index.result.now = ap (λ (m : BTreeMap ℕ MapLease). get nat_cmp m c.args.number) (sym c.leases.ensures) ∙ read in
    numbers_replaced c.args.kept.now c.replace.new.self c.args.number c.args.lease c.index.result.now (port_at c.port.result.0 c.port.result.1) (port_at c.port-2.result.0 c.port-2.result.1) at_n c.replace.ensures
