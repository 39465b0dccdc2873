use Rattle.std.proofs.Common.{◌≡◌, true, rules}
use Rattle.job_dispatch.specs.Dispatches.{came}
use Rattle.job_dispatch.proofs.DispatchLemmas.{fate_dropped, fate_starved}
use Rattle.job_dispatch.proofs.ports.dispatch_packet.Goals as goal

pub returns-then-is_dropped : goal.returns-then-is_dropped
returns-then-is_dropped g c =
    let dropped : c.is_dropped.result ≡ true = search rules in
    fate_dropped c.args.config.now (came c.args.peer c.args.port c.args.door c.args.octets.now) c.in-Ok.sifted c.args.ports.now c.is_dropped.new.ports
    c.args.noise.now c.is_dropped.new.noise c.is_dropped.result c.in-Ok.ensures.place c.in-Ok.ensures.noise c.is_dropped.ensures dropped

pub returns-in_default : goal.returns-in_default
returns-in_default g c = fate_starved c.args.config.now (came c.args.peer c.args.port c.args.door c.args.octets.now) _ _ _ c.count_starved.ensures
