use Rattle.std.proofs.Common.{◌≡◌, None}
use Rattle.book_rows.proofs.acts.act_all.Given as goal

-- no call has been refused
abbrev pub invariant-loop-number : goal.invariant-loop-number
invariant-loop-number g l = l.book.fault ≡ None
