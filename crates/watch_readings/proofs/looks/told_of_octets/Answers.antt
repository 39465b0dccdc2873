use Rattle.std.specs.Bool.{⊤}
use Rattle.lease_disk.specs.Steps.{octets_after}
use Rattle.watch_readings.proofs.ReadingLemmas.{told_still}
use Rattle.watch_readings.proofs.looks.told_of_octets.Goals as goal

pub returns-in-Ok : goal.returns-in-Ok
returns-in-Ok c =
    let place = c.args.place.now in
    told_still ⊤ (octets_after c.in_ok-disk_a.disk_a.steps) (octets_after c.in_ok-disk_b.disk_b.steps) c.args.a.now c.args.b.now
    place.external place.shard place.time c.in-Ok.told c.in_ok-disk_a.ensures c.in_ok-disk_b.ensures c.in-Ok.ensures.told
