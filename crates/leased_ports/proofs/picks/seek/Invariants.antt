use Rattle.std.proofs.Common.{ℕ, ◌≤◌}
use Rattle.external_pool.specs.Choosing.{IsLongest}
use Rattle.external_pool.specs.Holdings.{uses_of}
use Rattle.leased_ports.specs.Falling.{NoneDue, due_below}
use Rattle.leased_ports.specs.Kept.{IsOn, AreInStep, HaveBegun}
use Rattle.leased_ports.proofs.SearchLemmas.{IsSearched}
use Rattle.leased_ports.proofs.picks.seek.Given as goal

-- what is due before the choice is seen to in part
abbrev pub invariant-loop-id : goal.invariant-loop-id
invariant-loop-id g l = record {
  on : (low most : ℕ) → IsOn l.fn.pool low l.high most → IsOn l.pool low l.high most;
  in_step : AreInStep l.ends l.pool l.wheel;
  begun : HaveBegun l.m l.ends l.wheel;
  late : (seen : ℕ) → seen ≤ l.m → NoneDue seen l.fn.wheel → NoneDue seen l.wheel;
  longest : IsLongest (uses_of l.pool l.protocol) l.parity l.room l.choice;
  searched : IsSearched l.m l.protocol l.high l.room l.choice l.fn.wheel l.wheel l.fn.steps l.steps;
}

abbrev pub decreases-loop-id : goal.decreases-loop-id
decreases-loop-id g l = due_below l.m l.wheel 131072
