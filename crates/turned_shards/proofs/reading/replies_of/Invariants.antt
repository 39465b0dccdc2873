use Rattle.std.proofs.Common.{◌≡◌, take}
use Rattle.turned_shards.specs.BatchEntries.{asked_in}
use Rattle.turned_shards.specs.Reading.{replies_to}
use Rattle.turned_shards.proofs.reading.replies_of.Given as goal

abbrev pub invariant-loop-k : goal.invariant-loop-k
invariant-loop-k l = l.replies.items ≡ replies_to l.address (take l.k (asked_in l._config l.batch))
    (take l.k l.answers)
