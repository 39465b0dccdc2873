use Rattle.std.proofs.Common.{rules, ◌≡◌, ◌∙◌, ◌++◌, length, take, drop, Err, sym, ap, subst}
use Rattle.std.specs.List.{AllZip}
use Rattle.journal_dump.specs.Dumps.{HasPairFault}
use Rattle.pcp_server.specs.Outsides.{disks_by}
use Rattle.pcp_server.proofs.DumpLemmas.{IsRead, reads-fault, reads-later}
use Rattle.pcp_server.proofs.StatusLemmas.{undumped-disk}
use Rattle.pcp_server.proofs.dumping.dump_first.Goals as goal

pub returns-in-Ok-clause-disks : goal.returns-in-Ok-clause-disks
returns-in-Ok-clause-disks g c =
    let means = disks_by g.D.LeaseDisk.tells g.D.LeaseDisk.seen g.D.LeaseDisk.moment g.D.LeaseDisk.left_since g.D.LeaseDisk.may_leave g.D.LeaseDisk.faults in
    let n = length c.args.config.now.externals in
    let old = c.args.pairs.now in
    let front = c.dump.new.pairs in
    let count : length c.items-externals.result.now ≡ n = ap length c.items-externals.ensures in
    let is_front : c.split_at_mut-front.result.0.now ≡ take n old = c.split_at_mut-front.ensures.front ∙ ap (λ k. take k old) count in
    let is_back : c.split_at_mut-front.result.1.now ≡ drop n old = c.split_at_mut-front.ensures.back ∙ ap (λ k. drop k old) count in
    let whole : front ++ c.split_at_mut-front.result.1.now ≡ front ++ drop n old = ap (λ ps. front ++ ps) is_back in
    let read : AllZip (IsRead means) (take n old) front = subst (λ ps. AllZip (IsRead means) ps front) is_front c.dump.ensures.read in
    reads-later means n old front (front ++ c.split_at_mut-front.result.1.now) read whole

pub returns-in-Err-clause-disks : goal.returns-in-Err-clause-disks
returns-in-Err-clause-disks g c =
    let means = disks_by g.D.LeaseDisk.tells g.D.LeaseDisk.seen g.D.LeaseDisk.moment g.D.LeaseDisk.left_since g.D.LeaseDisk.may_leave g.D.LeaseDisk.faults in
    let n = length c.args.config.now.externals in
    let old = c.args.pairs.now in
    let front = c.dump.new.pairs in
    let count : length c.items-externals.result.now ≡ n = ap length c.items-externals.ensures in
    let is_front : c.split_at_mut-front.result.0.now ≡ take n old = c.split_at_mut-front.ensures.front ∙ ap (λ k. take k old) count in
    let is_back : c.split_at_mut-front.result.1.now ≡ drop n old = c.split_at_mut-front.ensures.back ∙ ap (λ k. drop k old) count in
    let whole : front ++ c.split_at_mut-front.result.1.now ≡ front ++ drop n old = ap (λ ps. front ++ ps) is_back in
    let read : AllZip (IsRead means) (take n old) front = subst (λ ps. AllZip (IsRead means) ps front) is_front c.dump.ensures.read in
    reads-later means n old front (front ++ c.split_at_mut-front.result.1.now) read whole

pub returns-in-Err-clause-disk_fault : goal.returns-in-Err-clause-disk_fault
returns-in-Err-clause-disk_fault g c shard is =
    let means = disks_by g.D.LeaseDisk.tells g.D.LeaseDisk.seen g.D.LeaseDisk.moment g.D.LeaseDisk.left_since g.D.LeaseDisk.may_leave g.D.LeaseDisk.faults in
    let n = length c.args.config.now.externals in
    let old = c.args.pairs.now in
    let front = c.dump.new.pairs in
    let count : length c.items-externals.result.now ≡ n = ap length c.items-externals.ensures in
    let is_front : c.split_at_mut-front.result.0.now ≡ take n old = c.split_at_mut-front.ensures.front ∙ ap (λ k. take k old) count in
    let is_back : c.split_at_mut-front.result.1.now ≡ drop n old = c.split_at_mut-front.ensures.back ∙ ap (λ k. drop k old) count in
    let whole : front ++ c.split_at_mut-front.result.1.now ≡ front ++ drop n old = ap (λ ps. front ++ ps) is_back in
    let failed : c.dump.result ≡ Err c.in-Err.fault = search rules in
    let fault = c.dump.ensures.disk_fault shard (failed ∙ ap Err (undumped-disk c.in-Err.fault shard (sym c.undumped_as.ensures ∙ is))) in
    reads-fault g.D.LeaseDisk.faults n old front (front ++ c.split_at_mut-front.result.1.now) shard
    (subst (λ ps. HasPairFault g.D.LeaseDisk.faults ps front shard) is_front fault) whole
