use Rattle.leased_ports.proofs.CopyLemmas.{recorded_first, recorded_all, recorded_formed, recorded_more, recorded_nearer}
use Rattle.leased_ports.proofs.listing.append_records.Goals as goal

pub loop-run-init : goal.loop-run-init
loop-run-init g c = recorded_first c.args.m c.args.ends.now c.requires.apart c.requires.set (g.K.RecordSink.taken c.args.out.now)

pub append_come-requires-clause-formed : goal.append_come-requires-clause-formed
append_come-requires-clause-formed g c =
    let taken = g.K.RecordSink.taken in
    recorded_formed c.args.m c.args.ends.now c.requires.apart c.requires.set (taken c.args.out.now) c.loop-run.from (taken c.loop-run.out) c.loop-run.invariant c.in-Some.run' c.in-Some.ensures c.requires.formed

pub loop-run-preserved : goal.loop-run-preserved
loop-run-preserved g c =
    let taken = g.K.RecordSink.taken in
    recorded_more c.args.m c.args.ends.now c.requires.apart c.requires.set (taken c.args.out.now) c.loop-run.from (taken c.loop-run.out) c.loop-run.invariant c.in-Some.run' c.in-Some.ensures (taken c.append_come.new.out) c.in_ok-append_come.ensures

pub loop-run-smaller : goal.loop-run-smaller
loop-run-smaller g c =
    let taken = g.K.RecordSink.taken in
    recorded_nearer c.args.m c.args.ends.now c.requires.apart c.requires.set (taken c.args.out.now) c.loop-run.from (taken c.loop-run.out) c.loop-run.invariant c.in-Some.run' c.in-Some.ensures

pub returns : goal.returns
returns g c =
    let taken = g.K.RecordSink.taken in
    recorded_all c.args.m c.args.ends.now c.requires.apart c.requires.set (taken c.args.out.now) c.loop-run.from (taken c.loop-run.out) c.loop-run.invariant c.in_default.ensures
