use Rattle.std.proofs.Common.{◌≡◌, ◌∙◌, sym, rules}
use Rattle.turned_shards.specs.BatchEntries.{asked_in}
use Rattle.turned_shards.proofs.Answering.{along-length}
use Rattle.turned_shards.proofs.shards.Shard.ask.Goals as goal

pub set_batch-requires-clause-count : goal.set_batch-requires-clause-count
set_batch-requires-clause-count g c =
    along-length c.args.self.now.book.terms (asked_in c.args.config.now c.args.batch.now)
    c.args.self.now.book.state c.args.m c.args.base ∙ sym c.requires.count

pub returns-in-Err-clause-refused : goal.returns-in-Err-clause-refused
returns-in-Err-clause-refused g c =
    let same : c.leave_in_doubt.new.self.book ≡ c.batch.new.self = search rules in
    rw same c.in-Err.ensures.refused
