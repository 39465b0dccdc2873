use Rattle.std.proofs.Common.{◌<◌, ◌^◌, rules}
use Rattle.std.proofs.lemmas.Result.{on_ok_weaker}
use Rattle.shard_book.proofs.StateLemmas.{snapshot_parts}
use Rattle.shard_book.proofs.snapshots.put_snapshot.Goals as goal

pub take-requires : goal.take-requires
take-requires g c =
    let within : c.last.result < 2 ^ 40 = search rules in
    record { moment = within; change = tt }

pub returns : goal.returns
returns g c =
    let taken = g.K.RecordSink.taken in
    on_ok_weaker c.add_records.result (λ all.
    snapshot_parts (g.S.LeaseStore.state c.args.core.now) c.base.result c.last.result c.address.result (taken c.args.out.now) (taken c.put_start.new.out) (taken c.take.new.self) (taken c.add_records.new.out)
    c.base.ensures c.last.ensures.value c.address.ensures c.requires.none
    c.in_ok-put_start.ensures c.in_ok-take.ensures all) c.add_records.ensures
