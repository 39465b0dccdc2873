use Rattle.std.proofs.Common.{rules, ◌≡◌, Some}
use Rattle.std.specs.Ordering.{nat_cmp}
use Rattle.std.specs.BTreeMap.{get}
use Rattle.ordered_index.proofs.Keeping.{port-there}
use Rattle.peer_table.specs.Kept.{key_of_lease, peer_keying}
use Rattle.peer_table.proofs.PeerKeeping.{key_has, peer_laws, peer_replaced}
use Rattle.peer_table.proofs.Past.{replaced_apart}
use Rattle.peer_table.proofs.changes.replace.Goals as goal

pub index-requires : goal.index-requires
index-requires g c = key_has c.args.kept.now c.requires.kept (key_of_lease c.args.lease) c.args.number c.requires.key

pub replace-requires-clause-port : goal.replace-requires-clause-port
replace-requires-clause-port g c =
    let at_n : get nat_cmp c.args.kept.now.leases c.args.number ≡ Some c.index.result.now = search rules in
    port-there peer_keying peer_laws c.args.kept.now c.requires.kept.kept c.args.number c.index.result.now c.opening_of.result at_n c.opening_of.ensures

pub returns-clause-kept : goal.returns-clause-kept
returns-clause-kept g c =
    let at_n : get nat_cmp c.args.kept.now.leases c.args.number ≡ Some c.index.result.now = search rules in
    (peer_replaced c.args.kept.now c.requires.kept c.args.lease c.requires.sound c.replace.new.self c.replace.result
    c.args.number c.index.result.now c.opening_of.result c.opening_of-2.result c.requires.key at_n c.opening_of.ensures c.opening_of-2.ensures c.replace.ensures.ok c.replace.ensures.err).0

pub returns-clause-put : goal.returns-clause-put
returns-clause-put g c =
    let at_n : get nat_cmp c.args.kept.now.leases c.args.number ≡ Some c.index.result.now = search rules in
    (peer_replaced c.args.kept.now c.requires.kept c.args.lease c.requires.sound c.replace.new.self c.replace.result
    c.args.number c.index.result.now c.opening_of.result c.opening_of-2.result c.requires.key at_n c.opening_of.ensures c.opening_of-2.ensures c.replace.ensures.ok c.replace.ensures.err).1

pub returns-clause-apart : goal.returns-clause-apart
returns-clause-apart g c =
    let at_n : get nat_cmp c.args.kept.now.leases c.args.number ≡ Some c.index.result.now = search rules in
    replaced_apart c.args.kept.now c.replace.new.self c.replace.result c.args.number c.index.result.now c.args.lease c.opening_of.result c.opening_of-2.result at_n c.replace.ensures.ok c.replace.ensures.err
