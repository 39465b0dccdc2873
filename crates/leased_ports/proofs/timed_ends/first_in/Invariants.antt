use Rattle.std.proofs.Common.{◌≡◌, ℕ, ◌+◌, ◌-◌, ◌<◌, ◌≤◌}
use Rattle.leased_ports.specs.Frees.{free_at}
use Rattle.leased_ports.proofs.timed_ends.first_in.Given as goal

-- at none of those so far
abbrev pub invariant-loop-at : goal.invariant-loop-at
invariant-loop-at g l = record {
  later : (j : ℕ) → l.from ≤ j → j < l.at → l.m < free_at l.ends j;
  cost : l.steps ≡ l.fn.steps + (l.at - l.from);
}
