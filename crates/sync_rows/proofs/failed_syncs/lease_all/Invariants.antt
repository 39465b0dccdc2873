use Rattle.std.proofs.Common.{◌≡◌, None}
use Rattle.sync_rows.proofs.failed_syncs.lease_all.Given as goal

-- no batch has been refused
abbrev pub invariant-loop-host : goal.invariant-loop-host
invariant-loop-host g l = l.book.fault ≡ None
