use Rattle.std.proofs.Common.{◌≡◌, ◌≤◌, length}
use Rattle.std.specs.Prelude.{All}
use Rattle.program_links.proofs.clocks.clocks_of.Given as goal

-- one for each place so far, of one start
abbrev pub invariant-loop-place : goal.invariant-loop-place
invariant-loop-place l = (length l.clocks.items ≡ l._place) × (l._place ≤ l.count)
    × All (λ c. c ≡ l.clock) l.clocks.items
