use Rattle.std.proofs.Common.{◌≡◌}
use Rattle.table_rows.proofs.leased.put_all.Given as goal

abbrev pub invariant-loop-i : goal.invariant-loop-i
invariant-loop-i l = l.ports.reached ≡ l.fn.ports.reached

-- the ledger of the steps that nobody counts
abbrev pub ghosts-put_from : goal.ghosts-put_from
ghosts-put_from a = record { name = a.blank.name; parts = a.blank.parts }
