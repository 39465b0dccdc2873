use Rattle.std.specs.Option.{option_copied}
use Rattle.std.specs.BTreeMap.{values}
use Rattle.mapping_table.proofs.Meetings.{nearest_inside}
use Rattle.mapping_table.proofs.overlaps.last_inside.Goals as goal

pub returns-clause-met : goal.returns-clause-met
returns-clause-met g c =
    nearest_inside (values c.args.kept.now.leases) c.requires.sound c.args.lease.now c.last_place.result c.last_place.ensures (option_copied c.nearest_place.result) c.nearest_place.ensures.nearest
