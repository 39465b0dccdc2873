use Rattle.std.proofs.Common.{◌≡◌, ◌++◌, map}
use Rattle.std.specs.List.{range_with_len}
use Rattle.pcp_base.specs.Owners.{map_owner}
use Rattle.indexed_store.proofs.owning.add_owners.Given as goal

abbrev pub invariant-loop-i : goal.invariant-loop-i
invariant-loop-i l = l.owners.items ≡ l.initial.owners.items ++ map (map_owner l.lease) (range_with_len 0 l.i)
