use Rattle.std.proofs.Common.{rules, ◌≡◌, []}
use Rattle.std.specs.BTreeMap.{values}
use Rattle.mapping_table.specs.Kept.{AreCountedMaps}
use Rattle.mapping_table.proofs.Sieving.{sieved_blank}
use Rattle.mapping_table.proofs.bare_table.BareTable.clear.Goals as goal

pub invariant_of-self : goal.invariant_of-self
invariant_of-self c =
    let counted : AreCountedMaps c.clear.new.self 0 = search rules in
    let blank : values c.clear.new.self.leases ≡ [] = search rules in
    record { counted = counted; sieved = sieved_blank c.clear-2.new.self (values c.clear.new.self.leases) c.clear-2.ensures blank }
