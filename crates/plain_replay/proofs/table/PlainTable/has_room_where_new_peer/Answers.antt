use Rattle.std.proofs.Common.{◌≡◌, ◌∙◌, ap, sym, Bool, false}
use Rattle.std.specs.Prelude.{find, is_some}
use Rattle.pcp_base.specs.declared.leases.PeerLease.{PeerLease}
use Rattle.pcp_base.specs.Tables.{Table, is_peer_of}
use Rattle.pcp_base.specs.Rooms.{HasRoomForPeer}
use Rattle.plain_replay.proofs.NewLeases.{decided_where_none}
use Rattle.plain_replay.proofs.table.PlainTable.has_room_where_new_peer.Goals as goal

pub returns : goal.returns
returns c =
    let test : PeerLease → Bool = is_peer_of c.args.lease.now.endpoint c.args.lease.now.remote c.args.lease.now.remote_port in
    let new : is_some (find test c.args.self.now.peers) ≡ false =
    sym (c.holds_peer.ensures ∙ ap (λ xs. is_some (find test xs)) (c.deref.ensures.value ∙ ap (λ (t : Table). t.peers) c.self.view_is)) ∙ c.if-holds_peer.false in
    decided_where_none (find test c.args.self.now.peers) (HasRoomForPeer c.args.self.now c.args.lease.now) c.has_room_for_peer.result new c.has_room_for_peer.ensures
