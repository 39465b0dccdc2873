use Rattle.std.proofs.Common.{◌≡◌, ◌+◌, length}
use Rattle.shared_rows.proofs.ends.give_up_all.Given as goal

abbrev pub invariant-loop : goal.invariant-loop
invariant-loop g l = length l.passes.items + l.counter ≡ length l.fn.passes.items
