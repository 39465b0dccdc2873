use Rattle.std.proofs.Common.{◌≢◌, refl, rules}
use Rattle.pcp_io.specs.declared.inboxes.Incoming.TheVariants as Incomings
use Rattle.relay_runs.specs.Ends.{Outs}
use Rattle.relay_runs.proofs.TurnLemmas.{Does-tick, goes_on, starves}
use Rattle.relay_runs.proofs.runs.do_turn.Goals as goal

pub returns-then-is_err : goal.returns-then-is_err
returns-then-is_err g c =
    let on : c.in-Ok.incoming ≢ Incomings.Stop = search rules in
    let mid : Outs = record {
      down = record { sent = g.O.Outbox.sent c.announce.new.down; faults = g.O.Outbox.faults c.announce.new.down };
      up = record { sent = g.O.Outbox.sent c.args.up.now; faults = g.O.Outbox.faults c.args.up.now };
    } in
    starves g.M.RelayMachine.machine c.args.server.now c.args.machine.now c.tick-told.new.self c.in-Ok.incoming c.take.new.room c.now-now_ms.result _ _ mid on c.in-Ok.ensures.takes.next
    c.now-now_ms.ensures.time c.take.ensures.cause.later (search rules)
    (Does-tick g.M.RelayMachine.machine c.args.server.now c.args.machine.now c.tick-told.new.self c.now-now_ms.result c.tick-told.result _ mid c.tick-told.ensures c.announce.ensures refl)
    (search rules)

pub returns : goal.returns
returns g c =
    let on : c.in-Ok.incoming ≢ Incomings.Stop = search rules in
    let mid : Outs = record {
      down = record { sent = g.O.Outbox.sent c.announce.new.down; faults = g.O.Outbox.faults c.announce.new.down };
      up = record { sent = g.O.Outbox.sent c.args.up.now; faults = g.O.Outbox.faults c.args.up.now };
    } in
    goes_on g.M.RelayMachine.machine c.args.server.now c.args.machine.now c.tick-told.new.self c.relay_item.new.machine c.in-Ok.incoming c.take.new.room c.now-now_ms.result c.relay_item.result _ _ mid on
    c.in-Ok.ensures.takes.next c.now-now_ms.ensures.time c.take.ensures.cause.later
    (Does-tick g.M.RelayMachine.machine c.args.server.now c.args.machine.now c.tick-told.new.self c.now-now_ms.result c.tick-told.result _ mid c.tick-told.ensures c.announce.ensures refl)
    (search rules) c.relay_item.ensures.ok
