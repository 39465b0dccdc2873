use Rattle.std.proofs.Common.{◌≡◌, ◌*◌}
use Rattle.expiry_wheel.specs.Blocks.{least_at}
use Rattle.leased_ports.specs.Frees.{free_at}
use Rattle.leased_ports.proofs.timed_ends.least_in.Given as goal

-- it is the least of those so far
abbrev pub invariant-loop-i : goal.invariant-loop-i
invariant-loop-i l = l.least ≡ least_at (free_at l.ends) (8 * l.block) l.i
