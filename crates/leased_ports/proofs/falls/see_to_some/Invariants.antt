use Rattle.std.proofs.Common.{ℕ, ◌≤◌, ◌+◌, ◌*◌}
use Rattle.leased_ports.specs.Falling.{NoneDue, due_below}
use Rattle.leased_ports.specs.Kept.{IsOn, AreInStep, HaveBegun}
use Rattle.leased_ports.proofs.falls.see_to_some.Given as goal

-- so many may be seen to yet
abbrev pub invariant-loop-left : goal.invariant-loop-left
invariant-loop-left g l = record {
  on : (low high most : ℕ) → IsOn l.fn.pool low high most → IsOn l.pool low high most;
  in_step : AreInStep l.ends l.pool l.wheel;
  begun : HaveBegun l.m l.ends l.wheel;
  late : NoneDue l.settled l.wheel;
  done : due_below l.m l.wheel 131072 + 2 ≤ due_below l.m l.fn.wheel 131072 + l.left;
  paid : l.steps + 190 * l.left ≤ l.fn.steps + 380;
}

abbrev pub decreases-loop-left : goal.decreases-loop-left
decreases-loop-left g l = l.left
