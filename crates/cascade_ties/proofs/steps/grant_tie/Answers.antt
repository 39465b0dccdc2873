use Rattle.std.specs.BTreeMap.{values}
use Rattle.pcp_base.specs.Tables.{put}
use Rattle.cascade_ties.specs.Ties.{has_client}
use Rattle.cascade_ties.proofs.RestLemmas.{has_room}
use Rattle.cascade_ties.proofs.RoomLemmas.{change_rests, concluded_seen, concluded_table, change_room, room_table}
use Rattle.cascade_ties.proofs.steps.grant_tie.Goals as goal

pub change_tie-made-requires-clause-kept : goal.change_tie-made-requires-clause-kept
change_tie-made-requires-clause-kept c =
    room_table c.args.kept.now c.args.pool.now c.args.rests.now c.requires.kept c.args.tied.tie.client c.args.tied.tie.local (change_rests c.args.kept.now c.args.pool.now c.args.rests.now c.requires.kept c.args.tied c.requires.may) c.spot-at.result c.args.until_ms c.spot-at.ensures c.reserve.new.rests c.in_ok-fresh.ensures.ok

pub change_tie-made-requires-clause-may : goal.change_tie-made-requires-clause-may
change_tie-made-requires-clause-may c = change_room c.args.kept.now c.args.pool.now c.args.rests.now c.requires.kept c.args.tied c.reserve.new.rests c.requires.may

pub conclude-requires-clause-there : goal.conclude-requires-clause-there
conclude-requires-clause-there c = has_room c.args.rests.now c.spot-at.result c.args.until_ms c.reserve.new.rests c.in_ok-fresh.ensures.ok

pub returns-clause-kept : goal.returns-clause-kept
returns-clause-kept c =
    concluded_table c.args.kept.now c.args.pool.now c.args.rests.now c.requires.kept c.args.tied.tie.client c.args.tied.tie.local (change_rests c.args.kept.now c.args.pool.now c.args.rests.now c.requires.kept c.args.tied c.requires.may) c.spot-at.result c.args.until_ms c.spot-at.ensures c.reserve.new.rests c.in_ok-fresh.ensures.ok
    c.change_tie-made.new.kept c.args.pool.now (put (has_client c.args.tied.tie.client) c.args.tied (values c.args.kept.now.leases)) c.change_tie-made.result c.in_ok-fresh.fresh c.is_ok.result c.conclude.new.rests
    c.change_tie-made.ensures.kept c.change_tie-made.ensures.ties c.in_ok-fresh.ensures.fresh c.is_ok.ensures.value c.conclude.ensures.made c.conclude.ensures.back

pub returns-clause-ties : goal.returns-clause-ties
returns-clause-ties c =
    concluded_seen c.args.kept.now c.args.pool.now c.args.rests.now c.requires.kept c.args.tied.tie.client c.args.tied.tie.local (change_rests c.args.kept.now c.args.pool.now c.args.rests.now c.requires.kept c.args.tied c.requires.may) c.spot-at.result c.args.until_ms c.spot-at.ensures c.reserve.new.rests c.in_ok-fresh.ensures.ok
    c.change_tie-made.new.kept c.args.pool.now (put (has_client c.args.tied.tie.client) c.args.tied (values c.args.kept.now.leases)) c.change_tie-made.result c.in_ok-fresh.fresh c.is_ok.result c.conclude.new.rests
    c.change_tie-made.ensures.ties c.in_ok-fresh.ensures.fresh c.is_ok.ensures.value c.conclude.ensures.made c.conclude.ensures.back

pub conclude-requires-clause-sometime : goal.conclude-requires-clause-sometime
conclude-requires-clause-sometime c = c.requires.sometime
