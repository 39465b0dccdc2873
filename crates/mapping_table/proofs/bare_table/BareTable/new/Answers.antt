use Rattle.std.proofs.Common.{rules, ◌≡◌, []}
use Rattle.std.specs.BTreeMap.{values}
use Rattle.mapping_table.specs.Kept.{AreCountedMaps}
use Rattle.mapping_table.proofs.Sieving.{sieved_blank}
use Rattle.mapping_table.proofs.bare_table.BareTable.new.Goals as goal

pub invariant_of-result : goal.invariant_of-result
invariant_of-result c =
    let counted : AreCountedMaps c.in_ok-kept.kept 0 = search rules in
    let blank : values c.in_ok-kept.kept.leases ≡ [] = search rules in
    record { counted = counted; sieved = sieved_blank c.in_ok-sieve.sieve (values c.in_ok-kept.kept.leases) c.in_ok-sieve.ensures blank }
