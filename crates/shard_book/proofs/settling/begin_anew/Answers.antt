use Rattle.std.proofs.Common.{arith}
use Rattle.shard_book.proofs.OpenLemmas.{lose_fits}
use Rattle.shard_book.proofs.settling.begin_anew.Goals as goal

pub keep-requires-clause-fits : goal.keep-requires-clause-fits
keep-requires-clause-fits g c =
    let s = g.S.LeaseStore.state c.args.core.now in
    lose_fits c.new_leases_need_room.ensures.fits s c.later.result c.requires.reached c.requires.started (omega (arith, c.later.ensures.value, c.last.ensures.value)) c.later.ensures.bound
