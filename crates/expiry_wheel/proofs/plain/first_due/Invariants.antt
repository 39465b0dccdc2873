use Rattle.std.proofs.Common.{ℕ, IfSome}
use Rattle.expiry_wheel.specs.Firsts.{AllFrom, HasDue}
use Rattle.expiry_wheel.proofs.plain.first_due.Given as goal

-- it is the least of those so far
abbrev pub invariant-loop-pair : goal.invariant-loop-pair
invariant-loop-pair l = record {
  found : IfSome l.best (λ (id : ℕ). HasDue l.pairs l.from l.m id);
  first : AllFrom l.pairs l.from l.m l.best l.pair-index;
}
