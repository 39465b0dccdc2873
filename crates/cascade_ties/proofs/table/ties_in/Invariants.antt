use Rattle.std.proofs.Common.{◌≡◌, ◌++◌, map}
use Rattle.cascade_ties.proofs.table.ties_in.Given as goal

abbrev pub invariant-loop-tied : goal.invariant-loop-tied
invariant-loop-tied l = l.list.items ++ map (λ t. t.tie) l.tied-iterator ≡ map (λ t. t.tie) l.initial.tied-iterator
