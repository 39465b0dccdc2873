use Rattle.std.proofs.Common.{◌∙◌}
use Rattle.shared_rows.proofs.PassLemmas.{told-of}
use Rattle.shared_rows.proofs.lanes.learns_grant.Goals as goal

pub learn-requires : goal.learn-requires
learn-requires g c =
    told-of c.args.house.now c.args.pass.now.shard c.in-Some-Ok.field-0 c.in-Some-Ok.served c.in-Some-Ok.field-0-is c.in-Some-Ok.ensures.told c.requires.lane.opening c.requires.lane.begins
    ∙ c.requires.lane.index_is
