use Rattle.std.proofs.Common.{◌≡◌, ◌+◌, length}
use Rattle.house_workers.proofs.giving_up.give_all_up.Given as goal

abbrev pub invariant-loop : goal.invariant-loop
invariant-loop g l = length l.passes.items + l.counter ≡ length l.fn.passes.items
