use Rattle.std.proofs.Common.{sym, ◌∙◌, filter, ◌+◌}
use Rattle.plain_store.specs.AddressPorts.{is_map_at, is_peer_at}
use Rattle.pcp_base.proofs.PortLemmas.{owned_of_either}
use Rattle.plain_store.proofs.counts.is_counted.Goals as goal

pub returns : goal.returns
returns c =
    let lease = c.args.lease.now in
    rw (c.from.ensures, c.from-2.ensures) at c.is_port_at.ensures
    ∙ sym (owned_of_either lease.protocol (lease.external + c.args.i) (filter (is_map_at c.args.m c.args.who.now) c.args.maps.now) (filter (is_peer_at c.args.m c.args.who.now) c.args.peers.now))
