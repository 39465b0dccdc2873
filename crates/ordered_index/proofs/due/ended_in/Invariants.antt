use Rattle.std.proofs.Common.{◌≡◌, ◌+◌, ◌*◌, ◌≤◌}
use Rattle.ordered_index.specs.Ended.{has_ended}
use Rattle.ordered_index.specs.Slots.{held_below}
use Rattle.ordered_index.proofs.due.ended_in.Given as goal

-- those so far
abbrev pub invariant-loop-i : goal.invariant-loop-i
invariant-loop-i g l = record {
  held : held_below (has_ended g.L.Expires.expiry l.m) l.slots (8 * l.block) + l.count ≡ held_below (has_ended g.L.Expires.expiry l.m) l.slots (8 * l.block + l.i);
  few : l.count ≤ l.i;
}
