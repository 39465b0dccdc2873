use Rattle.std.proofs.Common.{arith, sym}
use Rattle.std.proofs.lemmas.List.FromFn.{map-range_with_len_more}
use Rattle.pcp_base.specs.Owners.{map_owner}
use Rattle.plain_store.proofs.order.owners_of_map.Goals as goal

pub loop-i-preserved : goal.loop-i-preserved
loop-i-preserved c =
    rw (c.in_ok-push.ensures.items, c.loop-i.invariant) (sym (map-range_with_len_more (map_owner c.args.lease.now) 0 c.loop-i.i c.loop-i.i (omega arith)))
