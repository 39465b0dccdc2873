use Rattle.std.proofs.Common.{sym, ◌∙◌, filter}
use Rattle.pcp_base.specs.Owners.{is_port, peer_owner}
use Rattle.plain_store.specs.AddressPorts.{is_peer_at}
use Rattle.pcp_base.proofs.Anys.{any-map}
use Rattle.plain_store.proofs.counts.is_named_port.Goals as goal

pub returns : goal.returns
returns c = c.has_peer.ensures ∙ sym (any-map (is_port c.args.protocol c.args.port) peer_owner (filter (is_peer_at c.args.m c.args.who.now) c.args.peers.now))
