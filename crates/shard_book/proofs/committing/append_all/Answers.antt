use Rattle.shard_book.proofs.JournalLemmas.{still_settled, without}
use Rattle.shard_book.proofs.committing.append_all.Goals as goal

pub returns-then-is_empty-clause-moments : goal.returns-then-is_empty-clause-moments
returns-then-is_empty-clause-moments g c = λ told s is.
    let d = g.D.LeaseDisk in
    let j = c.args.journal.now in
    without d.moment d.left_since d.may_leave j.pair j.pair s c.args.records.now (still_settled d.seen d.may_leave d.moment d.left_since j s is)
