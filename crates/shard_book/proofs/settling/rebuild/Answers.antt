use Rattle.std.proofs.Common.{arith}
use Rattle.shard_book.proofs.OpenLemmas.{renumber_fits}
use Rattle.shard_book.proofs.settling.rebuild.Goals as goal

pub keep-requires-clause-fits : goal.keep-requires-clause-fits
keep-requires-clause-fits g c =
    let s = g.S.LeaseStore.state c.begin_anew.new.core in
    renumber_fits c.new_leases_need_room.ensures.fits s c.in_ok-record.record.moment c.args.address.now c.in_ok-record.ensures.kept c.in_ok-record.ensures.started (omega (arith, c.in_ok-record.ensures.empty.last)) c.in_ok-record.ensures.bound
