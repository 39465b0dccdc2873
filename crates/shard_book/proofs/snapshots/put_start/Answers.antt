use Rattle.std.proofs.Common.{◌<◌, ◌^◌, rules}
use Rattle.shard_book.proofs.snapshots.put_start.Goals as goal

pub take-requires : goal.take-requires
take-requires g c =
    let within : c.args.base < 2 ^ 40 = search rules in
    record { moment = within; change = tt }
