use Rattle.std.proofs.Common.{ℕ, ◌+◌, ◌<◌, ◌≤◌, IsTrue}
use Rattle.external_pool.specs.PortUses.{is_vacant}
use Rattle.external_pool.proofs.plain.is_vacant_run.Given as goal

abbrev pub invariant-loop-i : goal.invariant-loop-i
invariant-loop-i l = (port : ℕ) → l.start ≤ port → port < l.start + l.i → IsTrue (is_vacant (record { low = l.low; high = l.high; each = l.each }) port)
