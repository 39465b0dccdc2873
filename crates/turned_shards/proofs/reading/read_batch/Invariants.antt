use Rattle.std.proofs.Common.{take}
use Rattle.turned_shards.specs.BatchEntries.{asked_in}
use Rattle.turned_shards.specs.Reading.{IsReadBy}
use Rattle.turned_shards.proofs.reading.read_batch.Given as goal

abbrev pub invariant-loop-at : goal.invariant-loop-at
invariant-loop-at l = IsReadBy l.config l.batch (asked_in l.config (take l.at l.batch)) l.requests
