use Rattle.std.proofs.Common.{◌≡◌, ◌∙◌, ap, sym, Bool, false}
use Rattle.std.specs.Prelude.{find, is_some}
use Rattle.pcp_base.specs.declared.leases.MapLease.{MapLease}
use Rattle.pcp_base.specs.Tables.{Table, first_endpoint, is_map_of}
use Rattle.pcp_base.specs.Rooms.{HasRoomForMap}
use Rattle.plain_replay.proofs.NewLeases.{decided_where_none}
use Rattle.plain_replay.proofs.table.PlainTable.has_room_where_new_map.Goals as goal

pub returns : goal.returns
returns c =
    let test : MapLease → Bool = is_map_of (first_endpoint c.args.lease.now) in
    let new : is_some (find test c.args.self.now.maps) ≡ false =
    sym (c.holds_map.ensures ∙ ap (λ xs. is_some (find test xs)) (c.deref.ensures.value ∙ ap (λ (t : Table). t.maps) c.self.view_is)) ∙ c.if-holds_map.false in
    decided_where_none (find test c.args.self.now.maps) (HasRoomForMap c.args.self.now c.args.lease.now) c.has_room_for_map.result new c.has_room_for_map.ensures
