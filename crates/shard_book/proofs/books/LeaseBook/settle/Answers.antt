use Rattle.std.proofs.Common.{◌≡◌, None, rules}
use Rattle.shard_book.proofs.CallLemmas.{none_if}
use Rattle.shard_book.proofs.SettleLemmas.{clean_settles}
use Rattle.shard_book.proofs.books.LeaseBook.settle.Goals as goal

pub returns-in_default-clause-settled : goal.returns-in_default-clause-settled
returns-in_default-clause-settled g c =
    let d = g.D.LeaseDisk in
    let none : c.self.inside.fault ≡ None = search (rules, none_if) in
    rw (← c.self.view_is) (clean_settles d.tells d.seen d.moment d.left_since d.may_leave c.args.now _ c.self.invariant.is none)
