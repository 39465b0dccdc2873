use Rattle.std.specs.Option.{option_copied}
use Rattle.std.specs.BTreeMap.{values}
use Rattle.mapping_table.proofs.Meetings.{first_tells, second_tells}
use Rattle.mapping_table.proofs.overlaps.overlapping_set.Goals as goal

pub returns-in_default-clause-overlapped : goal.returns-in_default-clause-overlapped
returns-in_default-clause-overlapped g c =
    second_tells (values c.args.kept.now.leases) c.args.lease.now (option_copied c.last_inside.result) (option_copied c.last_outside.result)
    c.last_inside.ensures.met c.last_outside.ensures.met c.in_default.ensures c.overlapped_key-in_default.result c.overlapped_key-in_default.ensures

pub returns-clause-overlapped : goal.returns-clause-overlapped
returns-clause-overlapped g c =
    first_tells (values c.args.kept.now.leases) c.args.lease.now (option_copied c.last_inside.result) c.last_inside.ensures.met c.in-Some.key c.in-Some.ensures
