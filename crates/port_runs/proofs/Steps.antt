-- How many steps the way down takes.
use Rattle.std.proofs.Common.{◌≡◌, ℕ, ◌+◌, ◌≤◌, Option, Some, None, IfSome, IfNone, arith}
use Rattle.port_runs.specs.Nodes.{IsCostOfWay}

pub few_steps : (old new : ℕ) (result : Option ℕ) → IfNone result (new ≡ old + 1) → IfSome result (λ _. IsCostOfWay old new) → new ≤ old + 68
few_steps old new None none some = omega (arith, none)
few_steps old new (Some start) none some = omega (arith, some.is, some.few, some.one)

pub some_steps : (old new : ℕ) (result : Option ℕ) → IfSome result (λ _. IsCostOfWay old new) → IfSome result (λ _. old + 3 ≤ new)
some_steps old new None some = tt
some_steps old new (Some start) some = omega (arith, some.is, some.some)
