use Rattle.shard_book.proofs.JournalLemmas.{still_settled}
use Rattle.shard_book.proofs.committing.compact_by.Goals as goal

pub compact-requires-clause-same : goal.compact-requires-clause-same
compact-requires-clause-same g c = λ told. c.requires.same told c.if-anew.true

pub returns-clause-moments : goal.returns-clause-moments
returns-clause-moments g c = λ told s is.
    let d = g.D.LeaseDisk in
    still_settled d.seen d.may_leave d.moment d.left_since c.args.journal.now s is
