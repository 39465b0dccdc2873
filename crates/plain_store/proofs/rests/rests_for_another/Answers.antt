use Rattle.std.proofs.Common.{sym}
use Rattle.lease_store.specs.Lookups.{with_port}
use Rattle.plain_store.proofs.RestLemmas.{rests_for_another_is, where_left, where_not_left}
use Rattle.plain_store.proofs.rests.rests_for_another.Goals as goal

pub returns-then-is_left_to_another : goal.returns-then-is_left_to_another
returns-then-is_left_to_another c =
    where_left c.is_left_to_another.result c.is_owned.result _
    (rw (sym c.is_left_to_another.ensures, sym c.is_owned.ensures) at (rests_for_another_is c.args.replay.now c.args.m c.args.port (with_port c.args.endpoint.now c.args.internal) c.requires.sound)) c.if-is_left_to_another.true

pub returns-else-is_left_to_another : goal.returns-else-is_left_to_another
returns-else-is_left_to_another c =
    where_not_left c.is_left_to_another.result _ _
    (rw (sym c.is_left_to_another.ensures) at (rests_for_another_is c.args.replay.now c.args.m c.args.port (with_port c.args.endpoint.now c.args.internal) c.requires.sound)) c.if-is_left_to_another.false
