use Rattle.std.proofs.Common.{◌≡◌, ◌+◌, ◌∙◌, sym, arith}
use Rattle.pcp_base.specs.Owners.{port_count}
use Rattle.plain_store.specs.AddressPorts.{owners_at}
use Rattle.plain_store.proofs.CountLemmas.{owned_is}
use Rattle.plain_store.proofs.counts.owned.Goals as goal

pub returns : goal.returns
returns c =
    let t = c.args.replay.now.table in
    let maps = rw (c.maps.ensures, c.peers.ensures) at c.map_ports.ensures.value in
    let peers = rw c.peers-2.ensures at c.peer_ports.ensures.value in
    let sum : c.map_ports.result + c.peer_ports.result ≡ port_count (owners_at c.args.m c.args.who.now t.maps t.peers) = omega (arith, maps, peers) in
    sum ∙ sym (owned_is c.args.who.now t c.args.m)
