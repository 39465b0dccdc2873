use Rattle.std.proofs.Common.{ℕ, ◌+◌, ◌<◌, ◌≤◌}
use Rattle.external_pool.specs.Choosing.{HasVacantRun}
use Rattle.external_pool.proofs.plain.longest.Given as goal

abbrev pub invariant-loop-less : goal.invariant-loop-less
invariant-loop-less l = (n : ℕ) → l.room < n + l.less → n ≤ l.room → ¬ HasVacantRun (record { low = l.low; high = l.high; each = l.each }) l.parity n
