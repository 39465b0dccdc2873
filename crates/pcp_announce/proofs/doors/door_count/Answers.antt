use Rattle.std.proofs.Common.{rules}
use Rattle.pcp_announce.proofs.DoorLemmas.{counted, counted_anywhere}
use Rattle.pcp_announce.proofs.doors.door_count.Goals as goal

pub returns-then-is_empty : goal.returns-then-is_empty
returns-then-is_empty c =
    counted_anywhere c.args.config.now c.items-listen.result.now c.items-listen.ensures (search rules)

pub returns : goal.returns
returns c = counted c.args.config.now c.items-listen.result.now c.items-listen.ensures (search rules)
