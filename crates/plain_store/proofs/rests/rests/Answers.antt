use Rattle.std.proofs.Common.{sym}
use Rattle.plain_store.proofs.RestLemmas.{rests_is, where_left, where_not_left}
use Rattle.plain_store.proofs.rests.rests.Goals as goal

pub returns-then-is_left : goal.returns-then-is_left
returns-then-is_left c =
    where_left c.is_left.result c.is_owned.result _
    (rw (sym c.is_left.ensures, sym c.is_owned.ensures) at (rests_is c.args.replay.now c.args.m c.args.protocol c.args.port)) c.if-is_left.true

pub returns-else-is_left : goal.returns-else-is_left
returns-else-is_left c =
    where_not_left c.is_left.result _ _
    (rw (sym c.is_left.ensures) at (rests_is c.args.replay.now c.args.m c.args.protocol c.args.port)) c.if-is_left.false
