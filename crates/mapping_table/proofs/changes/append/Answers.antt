use Rattle.std.proofs.Common.{ℕ, List, sym, subst, ap, ◌∙◌, Ok}
use Rattle.std.specs.Prelude.{⊤}
use Rattle.std.specs.BTreeMap.{values}
use Rattle.pcp_base.specs.declared.errors.Memory.{Memory}
use Rattle.ordered_index.specs.Orders.{port_at}
use Rattle.mapping_table.specs.Kept.{SievesMaps}
use Rattle.mapping_table.proofs.MapKeeping.{map_appended, map_not_put}
use Rattle.mapping_table.proofs.Sets.{counted_stays, counted_appended}
use Rattle.mapping_table.proofs.Numberings.{numbers_stay, numbers_appended}
use Rattle.mapping_table.proofs.Sieving.{sieved_stays, sieved_more}
use Rattle.mapping_table.proofs.changes.append.Goals as goal

pub append-requires : goal.append-requires
append-requires g c = c.requires.counted.kept.kept.step

pub returns-clause-put : goal.returns-clause-put
returns-clause-put g c =
    (map_appended c.args.kept.now c.requires.counted.kept c.args.lease c.requires.sound c.append.new.self (Ok tt)
    c.place-place.result (port_at c.port.result.0 c.port.result.1) c.place-place.ensures c.port.ensures c.requires.free (c.in_ok-number.number, c.in_ok-number.ensures.ok) tt).1

pub returns-clause-counted : goal.returns-clause-counted
returns-clause-counted g c =
    let put = map_appended c.args.kept.now c.requires.counted.kept c.args.lease c.requires.sound {X = ⊤} {E = Memory} c.append.new.self (Ok tt)
    c.place-place.result (port_at c.port.result.0 c.port.result.1) c.place-place.ensures c.port.ensures c.requires.free (c.in_ok-number.number, c.in_ok-number.ensures.ok) tt in
    counted_appended c.args.kept.now c.args.sets.now c.requires.counted c.append.new.self c.args.lease put.0 put.1.ok c.requires.free c.sets.result c.sets.ensures

pub returns-in_err-number-clause-put : goal.returns-in_err-number-clause-put
returns-in_err-number-clause-put g c =
    map_not_put c.args.kept.now c.requires.counted.kept c.append.new.self c.in_err-number.ensures.err c.args.lease c.from_residual.result c.from_residual.ensures.0

pub returns-in_err-number-clause-counted : goal.returns-in_err-number-clause-counted
returns-in_err-number-clause-counted g c =
    counted_stays c.args.kept.now c.args.sets.now c.requires.counted c.append.new.self c.in_err-number.ensures.err

pub returns-clause-sieved : goal.returns-clause-sieved
returns-clause-sieved g c =
    let put = map_appended c.args.kept.now c.requires.counted.kept c.args.lease c.requires.sound {X = ⊤} {E = Memory} c.append.new.self (Ok tt)
    c.place-place.result (port_at c.port.result.0 c.port.result.1) c.place-place.ensures c.port.ensures c.requires.free (c.in_ok-number.number, c.in_ok-number.ensures.ok) tt in
    subst (λ (s : List ℕ). SievesMaps s (values c.append.new.self.leases)) (sym c.add.ensures)
    (sieved_more c.args.kept.now c.requires.counted.kept c.args.sieve.now c.requires.sieved c.append.new.self c.args.lease put.1.ok c.requires.free c.place-place.result c.place-place.ensures)

pub returns-in_err-number-clause-sieved : goal.returns-in_err-number-clause-sieved
returns-in_err-number-clause-sieved g c =
    sieved_stays c.args.kept.now c.requires.counted.kept c.args.sieve.now c.requires.sieved c.append.new.self c.in_err-number.ensures.err

pub returns-clause-numbers : goal.returns-clause-numbers
returns-clause-numbers g c =
    numbers_appended c.args.kept.now c.append.new.self c.args.lease c.place-place.result (port_at c.port.result.0 c.port.result.1) c.in_ok-number.number c.in_ok-number.ensures.ok

pub returns-in_err-number-clause-numbers : goal.returns-in_err-number-clause-numbers
returns-in_err-number-clause-numbers g c = numbers_stay c.args.kept.now c.append.new.self c.in_err-number.ensures.err
