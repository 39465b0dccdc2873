use Rattle.std.proofs.Common.{ℕ, ◌≤◌, ◌+◌, ◌-◌, ◌*◌}
use Rattle.leased_ports.specs.Among.{starts_among}
use Rattle.leased_ports.specs.Falling.{NoneDue}
use Rattle.leased_ports.specs.Kept.{IsOn}
use Rattle.leased_ports.specs.Steps.{AreFreeing}
use Rattle.leased_ports.proofs.steps.take_between.Given as goal

-- some of the runs are gone
abbrev pub invariant-loop-next : goal.invariant-loop-next
invariant-loop-next g l = record {
  on : (low high most : ℕ) → IsOn l.fn.pool low high most → IsOn l.pool low high most;
  late : (seen : ℕ) → NoneDue seen l.fn.wheel → NoneDue seen l.wheel;
  from_on : l.from ≤ l.at;
  freeing : AreFreeing l.from l.at l.to l.fn.ends l.fn.wheel l.ends l.pool l.wheel;
  paid : l.steps + 207 * starts_among l.ends l.at (l.to - l.at) ≤ l.fn.steps + 207 * starts_among l.fn.ends l.from (l.to - l.from);
}

abbrev pub decreases-loop-next : goal.decreases-loop-next
decreases-loop-next g l = l.to - l.at
