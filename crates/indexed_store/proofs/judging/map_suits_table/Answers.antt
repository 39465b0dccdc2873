use Rattle.std.proofs.Common.{◌≡◌, ◌+◌, ◌&&◌, Bool, List, length, nat_lt, not, is_some, find, ap, ◌∙◌}
use Rattle.std.specs.List.{list_all}
use Rattle.std.specs.Option.{option_map}
use Rattle.pcp_base.specs.declared.leases.TheConstants.{MOST_LEASES}
use Rattle.pcp_base.specs.declared.leases.MapLease.{MapLease}
use Rattle.pcp_base.specs.declared.leases.Endpoint.{Endpoint}
use Rattle.pcp_base.specs.declared.leases.Owner.{Owner}
use Rattle.pcp_base.specs.Tables.{Table, covers, live, names, first_endpoint, is_map_of}
use Rattle.pcp_base.specs.Owners.{map_owners}
use Rattle.pcp_base.specs.Rooms.{HasRoomForMap}
use Rattle.lease_store.specs.Lookups.{lease_count}
use Rattle.pcp_base.specs.Fits.{renews}
use Rattle.pcp_base.proofs.RenewalLemmas.{renewed-from_test, test-from_renewed}
use Rattle.indexed_store.specs.Judging.{has_room_at, is_at_most, unheld_by}
use Rattle.indexed_store.specs.Tabled.{TabledState}
use Rattle.indexed_store.proofs.JudgeLemmas.{told-neither, told-some, map-room}
use Rattle.indexed_store.proofs.StateLooks.{leases_of, looked_in, reached-later}
use Rattle.indexed_store.proofs.judging.map_suits_table.Goals as goal

pub returns-in_default : goal.returns-in_default
returns-in_default c =
    let s = c.args.state.now.state in let v = c.args.state.now.ports in let m = c.args.m in let l = c.args.lease.now in
    let test : Bool = nat_lt (lease_count s.table m) MOST_LEASES && list_all (has_room_at s.table m v) (map_owners l) in
    told-neither (λ (old : MapLease). l ≡ record old { expiry = l.expiry; filters = l.filters }) (HasRoomForMap (live s.table m) l) c.has_room_for.result test
    (c.has_room_for.ensures ∙ ap (λ (os : List Owner). nat_lt (lease_count c.state.inside.leases.found m) MOST_LEASES && list_all (has_room_at c.state.inside.leases.found m c.state.inside.ports) os) (c.deref.ensures.value ∙ c.in_ok-owners.ensures)
    ∙ looked_in (λ (u : Table). nat_lt (length u.maps + length u.peers) MOST_LEASES && list_all (λ (o : Owner).
    (not (is_some (find (λ x. covers x o.endpoint) u.maps)) && is_at_most (option_map (λ x. x.external) (find (λ x. names x o.endpoint) u.peers)) o.external)
    && unheld_by m c.state.inside.ports o) (map_owners l)) c.args.state.now m c.state.inside.leases.found (leases_of c.state.view_is) c.requires.current.kept (reached-later _ _ c.requires.current)
    ∙ ap (λ (x : TabledState). nat_lt (lease_count s.table m) MOST_LEASES && list_all (has_room_at s.table m x.ports) (map_owners l)) c.state.view_is)
    (find (is_map_of (first_endpoint l)) (live s.table m).maps)
    (c.in_default.ensures ∙ ap (λ (e : Endpoint). find (is_map_of e) (live c.state.inside.leases.found m).maps) c.first_endpoint.ensures ∙ looked_in (λ t. find (is_map_of (first_endpoint l)) t.maps) c.args.state.now m c.state.inside.leases.found (leases_of c.state.view_is) c.requires.current.kept (reached-later _ _ c.requires.current)) (map-room c.args.state.now m c.requires.current l)

pub returns : goal.returns
returns c =
    let s = c.args.state.now.state in let m = c.args.m in let l = c.args.lease.now in let old = c.in-Some.held in
    told-some (λ (old : MapLease). l ≡ record old { expiry = l.expiry; filters = l.filters }) (HasRoomForMap (live s.table m) l) c.is_renewed.result (renews old l) c.is_renewed.ensures
    (find (is_map_of (first_endpoint l)) (live s.table m).maps) old
    (c.in-Some.ensures ∙ ap (λ (e : Endpoint). find (is_map_of e) (live c.state.inside.leases.found m).maps) c.first_endpoint.ensures ∙ looked_in (λ t. find (is_map_of (first_endpoint l)) t.maps) c.args.state.now m c.state.inside.leases.found (leases_of c.state.view_is) c.requires.current.kept (reached-later _ _ c.requires.current))
    (renewed-from_test old l, test-from_renewed old l)
