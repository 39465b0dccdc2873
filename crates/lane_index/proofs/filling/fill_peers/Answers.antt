use Rattle.std.proofs.Common.{map, take, length, ap, arith, length-append, length-take-le}
use Rattle.std.proofs.lemmas.List.{length-map}
use Rattle.lane_index.specs.declared.cells.Cell.TheVariants.{Peering}
use Rattle.lane_index.specs.Slots.{peer_kept}
use Rattle.lane_index.proofs.filling.fill_peers.Goals as goal

pub add-requires-clause-room : goal.add-requires-clause-room
add-requires-clause-room c =
    let test = c.loop-lease-test.true in
    let first = take c.loop-lease.lease-index c.args.peers.now in
    let long = ap length c.loop-lease.invariant in
    let all = length-append c.args.index.now (map (λ x. Peering (peer_kept x)) first) in
    let cells = length-map first (λ x. Peering (peer_kept x)) in
    let few = length-take-le c.loop-lease.lease-index c.args.peers.now (omega (arith, test)) in
    omega (arith, test, long, all, cells, few, c.requires.few)
