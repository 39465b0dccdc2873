use Rattle.std.proofs.Common.{◌≤◌, length, rules, arith}
use Rattle.std.proofs.lemmas.List.{length-take}
use Rattle.pcp_io.proofs.TakeLemmas.{within_first}
use Rattle.pcp_io.proofs.udp_inboxes.take_by.Goals as goal

pub returns-clause-most : goal.returns-clause-most
returns-clause-most c =
    let fits : c.in-Some.found.0 ≤ length c.receive.new.room = search rules in
    within_first _ c.in-Some.found.0 2048 _ c.incoming_of.ensures.filled
    (omega (arith, fits, c.receive.ensures.same, length-take 2048 c.args.room.now))
