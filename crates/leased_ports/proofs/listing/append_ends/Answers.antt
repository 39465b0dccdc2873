use Rattle.leased_ports.proofs.CopyLemmas.{no_record, one_record, run_formed}
use Rattle.leased_ports.proofs.listing.append_ends.Goals as goal

pub loop-i-init : goal.loop-i-init
loop-i-init g c = no_record c.args.run.now c.args.m (g.K.RecordSink.taken c.args.out.now)

pub take-requires : goal.take-requires
take-requires g c = run_formed c.args.run.now c.args.m c.loop-i.i c.end_along-last.result c.end_along-last.ensures c.loop-i-test.true c.requires.formed

pub loop-i-preserved : goal.loop-i-preserved
loop-i-preserved g c =
    let taken = g.K.RecordSink.taken in
    one_record c.args.run.now c.args.m (taken c.args.out.now) c.loop-i.i c.end_along-last.result c.end_along-last.ensures
    (taken c.loop-i.out) c.loop-i.invariant (taken c.take.new.self) c.in_ok-take.ensures
