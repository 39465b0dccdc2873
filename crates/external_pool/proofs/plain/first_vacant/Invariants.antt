use Rattle.std.proofs.Common.{ℕ, ◌<◌}
use Rattle.external_pool.specs.Choosing.{IsVacantRun}
use Rattle.external_pool.proofs.plain.first_vacant.Given as goal

abbrev pub invariant-loop-port : goal.invariant-loop-port
invariant-loop-port l = (other : ℕ) → other < l.port → ¬ IsVacantRun (record { low = l.low; high = l.high; each = l.each }) l.n l.parity other
