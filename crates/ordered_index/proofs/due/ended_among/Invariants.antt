use Rattle.std.proofs.Common.{◌≡◌, ℕ, ◌≤◌, ◌<◌, false}
use Rattle.slab.specs.Slab.{get}
use Rattle.ordered_index.specs.Ended.{has_ended}
use Rattle.ordered_index.specs.Slots.{holds}
use Rattle.ordered_index.proofs.due.ended_among.Given as goal

-- none of those so far has ended
abbrev pub invariant-loop-slot : goal.invariant-loop-slot
invariant-loop-slot g l = (slot : ℕ) → l.from ≤ slot → slot < l.slot → holds (has_ended g.L.Expires.expiry l.m) (get l.slots slot) ≡ false
