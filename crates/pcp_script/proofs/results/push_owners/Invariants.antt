use Rattle.std.proofs.Common.{◌≡◌, ◌++◌, drop, flat_map}
use Rattle.pcp_script.specs.Results.{own_line}
use Rattle.pcp_script.proofs.results.push_owners.Given as goal

abbrev pub invariant-loop-owner : goal.invariant-loop-owner
invariant-loop-owner l = l.fn.out.items ++ flat_map own_line l.fn.owners ≡ l.out.items ++ flat_map own_line (drop l.owner-index l.fn.owners)
