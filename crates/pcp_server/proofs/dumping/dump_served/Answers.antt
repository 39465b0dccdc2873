use Rattle.std.proofs.Common.{rules, ◌≡◌, ◌∙◌, ◌++◌, length, take, drop, sym, ap, subst}
use Rattle.lease_disk.specs.Pairs.{PairHasCause}
use Rattle.journal_dump.specs.Dumps.{HasPairFault}
use Rattle.pcp_server.specs.Outsides.{HaveNotFallen}
use Rattle.pcp_server.proofs.DumpLemmas.{take-all-front, zip-length}
use Rattle.pcp_server.proofs.dumping.dump_served.Goals as goal

pub returns-clause-disk_fault : goal.returns-clause-disk_fault
returns-clause-disk_fault g c shard is =
    let faults = g.D.LeaseDisk.faults in
    let old = c.args.disks.items in
    let now = c.dump_first-status.new.pairs in
    let back = drop (length now) old in
    let old_is : c.deref_mut.result.now ≡ old = search rules in
    let count : length now ≡ length old =
    zip-length (λ p q. PairHasCause faults p q ⊥) old now (subst (λ ps. HaveNotFallen faults ps now) old_is c.dump_first-status.ensures.disks) in
    let len : c.args.disks.len ≡ length old = search rules in
    let same : take c.args.disks.len (now ++ back) ≡ now = ap (λ k. take k (now ++ back)) (len ∙ sym count) ∙ take-all-front now back in
    subst (λ ps. HasPairFault faults old ps shard) (sym same)
    (subst (λ ps. HasPairFault faults ps now shard) old_is (c.dump_first-status.ensures.disk_fault shard is))
