use Rattle.std.proofs.Common.{not, subst, sym}
use Rattle.pcp_base.specs.Tables.{is_peer_of}
use Rattle.peer_table.specs.PeerLists.{AreSoundPeers}
use Rattle.peer_table.proofs.Sounds.{AreSoundPeers-filter}
use Rattle.peer_table.proofs.plain.PlainPeerTable.remove.Goals as goal

pub invariant_of-self : goal.invariant_of-self
invariant_of-self g c = subst AreSoundPeers (sym c.drop_from.ensures) (AreSoundPeers-filter (λ l. not (is_peer_of c.args.endpoint.now c.args.remote.now c.args.port l)) _ c.self.invariant)
