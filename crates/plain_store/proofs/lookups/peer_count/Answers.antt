use Rattle.std.proofs.Common.{◌≡◌, length, ap, arith}
use Rattle.plain_store.proofs.lookups.peer_count.Goals as goal

pub overflow_cast-result : goal.overflow_cast-result
overflow_cast-result c =
    let peers : length c.peers.result.now ≡ length c.args.replay.now.table.peers = ap length c.peers.ensures in
    omega (arith, c.naming_count.ensures.few, peers, c.requires.sound.table.few)
