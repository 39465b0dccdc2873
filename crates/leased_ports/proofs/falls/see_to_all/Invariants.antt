use Rattle.std.proofs.Common.{ℕ, ◌≤◌, ◌+◌, ◌*◌}
use Rattle.leased_ports.specs.Kept.{IsOn, AreInStep, HaveBegun}
use Rattle.leased_ports.specs.Falling.{due_below}
use Rattle.leased_ports.proofs.falls.see_to_all.Given as goal

-- some of what falls due is seen to
abbrev pub invariant-loop : goal.invariant-loop
invariant-loop g l = record {
  on : (low high most : ℕ) → IsOn l.fn.pool low high most → IsOn l.pool low high most;
  in_step : AreInStep l.ends l.pool l.wheel;
  begun : HaveBegun l.m l.ends l.wheel;
  paid : l.steps + 190 * due_below l.m l.wheel 131072 ≤ l.fn.steps + 190 * due_below l.m l.fn.wheel 131072;
}

abbrev pub decreases-loop : goal.decreases-loop
decreases-loop g l = due_below l.m l.wheel 131072
