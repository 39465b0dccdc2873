use Rattle.turned_shards.specs.BatchEntries.{asked_in, entries_along}
use Rattle.turned_shards.proofs.shards.Shard.ask.Given as goal

abbrev pub ghosts-set_batch : goal.ghosts-set_batch
ghosts-set_batch g a =
    record {
      items = entries_along a.book.now.terms a.book.now.state a.m a.base
          (asked_in a.config.now a.batch.now);
    }
