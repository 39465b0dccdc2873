use Rattle.ordered_index.specs.Sieves.{no_places}
use Rattle.ordered_index.proofs.FilledBuckets.{none_filled}
use Rattle.ordered_index.proofs.sieves.Sieve.new.Goals as goal

pub invariant_of-result : goal.invariant_of-result
unfolding no_places
invariant_of-result c = none_filled c.in_ok-counts.counts.items c.in_ok-filled.filled c.in_ok-counts.ensures c.in_ok-filled.ensures

pub returns : goal.returns
unfolding no_places
returns c = c.in_ok-counts.ensures
