use Rattle.std.proofs.Common.{◌≡◌, ◌*◌, ◌-◌, ◌≤◌}
use Rattle.ordered_index.specs.declared.slots.TheConstants.{BLOCKS}
use Rattle.ordered_index.specs.Ended.{has_ended}
use Rattle.ordered_index.specs.Slots.{held_below}
use Rattle.ordered_index.proofs.due.count_ended.Given as goal

-- those of the blocks so far
abbrev pub invariant-loop-from : goal.invariant-loop-from
invariant-loop-from g l = record {
  counted : l.count ≡ held_below (has_ended g.L.Expires.expiry l.m) l.slots (8 * l.from);
  within : l.from ≤ BLOCKS;
}

abbrev pub decreases-loop-from : goal.decreases-loop-from
decreases-loop-from g l = BLOCKS - l.from
