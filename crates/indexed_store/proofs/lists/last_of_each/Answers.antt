use Rattle.indexed_store.proofs.SortLemmas.{kept-begins, kept-ends, kept-turn}
use Rattle.indexed_store.proofs.lists.last_of_each.Goals as goal

pub loop-i-init : goal.loop-i-init
loop-i-init c = kept-begins _ c.args.owners.now c.in_ok-last.ensures.items c.requires

pub loop-i-preserved : goal.loop-i-preserved
loop-i-preserved c = kept-turn c.loop-i.last.items _ c.args.owners.now c.loop-i.i _ c.loop-i-test.true c.loop-i.invariant c.in_ok-add_last.ensures

pub returns : goal.returns
returns c = kept-ends c.loop-i.last.items c.args.owners.now c.loop-i.i c.loop-i-test.false c.loop-i.invariant
