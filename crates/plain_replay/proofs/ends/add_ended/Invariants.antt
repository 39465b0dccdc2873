use Rattle.std.proofs.Common.{◌≡◌, ◌++◌, map, take}
use Rattle.pcp_base.specs.Ends.{end_at}
use Rattle.plain_replay.proofs.ends.add_ended.Given as goal

abbrev pub invariant-loop-owner : goal.invariant-loop-owner
invariant-loop-owner l = l.left.items ≡ l.fn.left.items ++ map (end_at l.moment) (take l.owner-index l.owners)
