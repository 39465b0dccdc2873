use Rattle.std.proofs.Common.{◌≡◌, None}
use Rattle.book_rows.proofs.acts.renew.Given as goal

-- no batch has been refused
abbrev pub invariant-loop : goal.invariant-loop
invariant-loop g l = l.book.fault ≡ None
