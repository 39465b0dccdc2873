use Rattle.std.proofs.Common.{rules}
use Rattle.relay_runs.proofs.TurnLemmas.{Does-server}
use Rattle.relay_runs.proofs.packets.relay_packet.Goals as goal

pub returns-then-eq-clause-ok : goal.returns-then-eq-clause-ok
returns-then-eq-clause-ok g c =
    Does-server g.M.RelayMachine.machine c.args.server.now c.args.datagram.now c.args.now_ms c.args.machine.now c.from_server.new.self c.in_ok-out.out _ _ (search rules)
    c.in_ok-out.ensures c.send_out.ensures.down c.send_out.ensures.up
