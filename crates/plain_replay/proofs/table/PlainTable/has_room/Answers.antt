use Rattle.std.proofs.Common.{sym, subst}
use Rattle.std.specs.Prelude.{◌↔◌, IsTrue, IfOk}
use Rattle.pcp_base.specs.declared.records.Change.{Change}
use Rattle.pcp_base.specs.Rooms.{HasRoom}
use Rattle.plain_replay.proofs.table.PlainTable.has_room.Goals as goal

pub returns-in-Map : goal.returns-in-Map
returns-in-Map c =
    subst (λ (x : Change). IfOk c.has_room_where_new_map.result (λ b. IsTrue b ↔ HasRoom c.args.self.now x)) (sym c.in-Map.is) c.has_room_where_new_map.ensures

pub returns-in-Peer : goal.returns-in-Peer
returns-in-Peer c =
    subst (λ (x : Change). IfOk c.has_room_where_new_peer.result (λ b. IsTrue b ↔ HasRoom c.args.self.now x)) (sym c.in-Peer.is) c.has_room_where_new_peer.ensures
