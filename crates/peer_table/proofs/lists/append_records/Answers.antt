use Rattle.std.proofs.Common.{◌++◌, List, map, sym, ap, subst}
use Rattle.std.specs.List.{AllByRecursion}
use Rattle.pcp_base.specs.declared.leases.PeerLease.{PeerLease}
use Rattle.pcp_base.specs.Records.{IsWellFormedRecord}
use Rattle.pcp_base.specs.Snapshots.{peer_record}
use Rattle.ordered_index.specs.Aged.{AreNumbersOf}
use Rattle.peer_table.proofs.Past.{listed}
use Rattle.peer_table.proofs.lists.append_records.Goals as goal

pub loop-number-init : goal.loop-number-init
loop-number-init g c =
    let leases = c.args.leases.now in let past = c.args.past.now in let m = c.args.m in
    let ns = c.deref-number-items.result.now in
    let are : AreNumbersOf leases past ns = subst (AreNumbersOf leases past) (sym c.deref-number-items.ensures.value) c.in_ok-numbers.ensures in
    let same = listed m leases past ns c.requires.both are in record {
      told = ap (λ (ls : List PeerLease). g.K.RecordSink.taken c.args.out.now ++ map (peer_record m) ls) same;
      formed = subst (λ (ls : List PeerLease). AllByRecursion IsWellFormedRecord (map (peer_record m) ls)) (sym same) c.requires.formed;
    }
