use Rattle.pcp_announce.specs.Doors.{doors}
use Rattle.job_workers.proofs.SendLemmas.{tells-more}
use Rattle.job_workers.proofs.sends.send_to_groups.Goals as goal

pub loop-place-preserved : goal.loop-place-preserved
loop-place-preserved g c =
    tells-more (doors c.args.config.now) c.loop-place.place c.door_at-door.result c.args.port c.args.octets.now _ _ _ _ _ _
    c.door_at-door.ensures c.loop-place.invariant c.send_by.ensures
