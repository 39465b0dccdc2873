use Rattle.std.proofs.Common.{◌≡◌, find, ap, ◌∙◌}
use Rattle.std.specs.List.{list_all}
use Rattle.pcp_base.specs.declared.leases.MapLease.{MapLease}
use Rattle.pcp_base.specs.declared.leases.Endpoint.{Endpoint}
use Rattle.pcp_base.specs.Tables.{live, first_endpoint, is_map_of}
use Rattle.pcp_base.specs.Owners.{map_owners}
use Rattle.pcp_base.specs.Fits.{RestForNoOther}
use Rattle.indexed_store.specs.Judging.{unrested_by}
use Rattle.indexed_store.proofs.JudgeLemmas.{told-held, told-none, unrested-all}
use Rattle.indexed_store.specs.Tabled.{TabledState}
use Rattle.indexed_store.proofs.StateLooks.{leases_of, looked_in, reached-later}
use Rattle.indexed_store.proofs.judging.map_is_rested.Goals as goal

pub returns-in_default : goal.returns-in_default
returns-in_default c =
    let s = c.args.state.now.state in let v = c.args.state.now.ports in let m = c.args.m in let l = c.args.lease.now in
    told-none (λ (x : MapLease). x ≡ x) (RestForNoOther s m (map_owners l)) c.are_unrested.result (list_all (unrested_by m v) (map_owners l))
    (c.are_unrested.ensures ∙ ap (list_all (unrested_by m c.state.inside.ports)) (c.deref.ensures.value ∙ c.in_ok-owners.ensures) ∙ ap (λ (x : TabledState). list_all (unrested_by m x.ports) (map_owners l)) c.state.view_is) (find (is_map_of (first_endpoint l)) (live s.table m).maps)
    (c.in_default.ensures ∙ ap (λ (e : Endpoint). find (is_map_of e) (live c.state.inside.leases.found m).maps) c.first_endpoint.ensures ∙ looked_in (λ t. find (is_map_of (first_endpoint l)) t.maps) c.args.state.now m c.state.inside.leases.found (leases_of c.state.view_is) c.requires.current.kept (reached-later _ _ c.requires.current)) (unrested-all c.args.state.now m c.requires.current (map_owners l))

pub returns : goal.returns
returns c =
    let s = c.args.state.now.state in let m = c.args.m in let l = c.args.lease.now in
    told-held (RestForNoOther s m (map_owners l)) (find (is_map_of (first_endpoint l)) (live s.table m).maps) c.in-Some._held
    (c.in-Some.ensures ∙ ap (λ (e : Endpoint). find (is_map_of e) (live c.state.inside.leases.found m).maps) c.first_endpoint.ensures
    ∙ looked_in (λ t. find (is_map_of (first_endpoint l)) t.maps) c.args.state.now m c.state.inside.leases.found (leases_of c.state.view_is) c.requires.current.kept (reached-later _ _ c.requires.current))
