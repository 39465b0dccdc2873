use Rattle.std.proofs.Common.{rules}
use Rattle.pcp_announce.specs.Doors.{doors}
use Rattle.serve_runs.proofs.HandLemmas.{by-all, doors-more}
use Rattle.serve_runs.proofs.updates.send_update.Goals as goal

pub loop-place-preserved : goal.loop-place-preserved
loop-place-preserved g c =
    doors-more c.args.update.now (doors c.args.config.now) c.loop-place.place c.door_at-door.result _ _ _
    c.door_at-door.ensures c.loop-place.invariant c.send_by.ensures

pub returns : goal.returns
returns g c =
    by-all c.args.update.now (doors c.args.config.now) c.loop-place.place _ _ (search rules) c.loop-place.invariant
