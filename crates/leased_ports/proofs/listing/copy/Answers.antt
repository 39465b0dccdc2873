use Rattle.leased_ports.proofs.CopyLemmas.{written_first, written_all, written_more, nearer}
use Rattle.leased_ports.proofs.listing.copy.Goals as goal

pub loop-run-init : goal.loop-run-init
loop-run-init c = written_first c.args.m c.args.ends.now c.requires.apart c.requires.set c.new-all.result.items c.new-all.ensures.items

pub loop-run-preserved : goal.loop-run-preserved
loop-run-preserved c =
    written_more c.args.m c.args.ends.now c.requires.apart c.requires.set c.loop-run.from c.loop-run.all.items c.loop-run.invariant c.in-Some.run' c.in-Some.ensures c.push_come.new.all.items c.in_ok-push_come.ensures

pub loop-run-smaller : goal.loop-run-smaller
loop-run-smaller c = nearer c.args.m c.args.ends.now c.requires.apart c.requires.set c.loop-run.from c.loop-run.all.items c.loop-run.invariant c.in-Some.run' c.in-Some.ensures

pub returns : goal.returns
returns c = written_all c.args.m c.args.ends.now c.requires.apart c.requires.set c.loop-run.from c.loop-run.all.items c.loop-run.invariant c.in_default.ensures
