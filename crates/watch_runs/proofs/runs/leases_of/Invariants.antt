use Rattle.std.proofs.Common.{◌≡◌, take}
use Rattle.watch_runs.specs.Runs.{leases_told}
use Rattle.watch_runs.proofs.runs.leases_of.Given as goal

abbrev pub invariant-loop-told : goal.invariant-loop-told
invariant-loop-told l = l.leases ≡ leases_told (take l.told-index l.all)
