use Rattle.std.proofs.Common.{rules, ◌≡◌, ◌<◌, Some, None, IsSome, List, cond, length, sym, ap, ◌∙◌}
use Rattle.std.specs.BTreeMap.{get, is_at}
use Rattle.pcp_base.specs.declared.leases.Filter.{Filter}
use Rattle.ordered_index.specs.Orders.{place_cmp}
use Rattle.ordered_index.proofs.Entries.{some_of}
use Rattle.mapping_table.specs.Kept.{with_room}
use Rattle.mapping_table.proofs.Rooms.{none_wanted, there_room, room_there, room_made}
use Rattle.mapping_table.proofs.filters.make_room.Goals.{then-is_empty-via-then-is_empty, then-is_empty-via-else-is_empty+then-contains_key}
use Rattle.mapping_table.proofs.filters.make_room.Goals as goal

pub returns-then-is_empty-clause-ok : goal.returns-then-is_empty-clause-ok
returns-then-is_empty-clause-ok c =
    let old = c.args.filters.now in let k = c.args.place in
    room_there old k c.args.wanted.now (elim c.then-is_empty.branch [
      | then-is_empty-via-then-is_empty w ↦ (
          let blank : length c.args.wanted.now ≡ 0 = search rules in
          none_wanted c.args.wanted.now (get place_cmp old k) blank)
      | then-is_empty-via-else-is_empty+then-contains_key w ↦ (
          let there : IsSome (get place_cmp old k) = search rules in
          let found = some_of (get place_cmp old k) there in
          ap (with_room c.args.wanted.now) found.1 ∙ there_room c.args.wanted.now found.0 ∙ sym found.1)
    ])

pub returns-clause-ok : goal.returns-clause-ok
returns-clause-ok c =
    let old = c.args.filters.now in let k = c.args.place in
    let none : get place_cmp old k ≡ None = search rules in
    let some : 0 < length c.args.wanted.now = search rules in
    room_made old k c.args.wanted.now some none c.insert.new.self
    (λ q. c.in_ok-insert.ensures.updates.0 q ∙ ap (λ (fs : List Filter). cond (is_at (place_cmp k) q) (Some fs) (get place_cmp old q)) c.none.ensures)
