use Rattle.std.proofs.Common.{◌≡◌, ◌++◌, ◌∷◌, [], ◌<◌, nat_lt, not, List, filter, length, ap, ◌∙◌, subst, sym}
use Rattle.pcp_base.specs.declared.leases.Endpoint.{Endpoint}
use Rattle.pcp_base.specs.declared.leases.MapLease.{MapLease}
use Rattle.pcp_base.specs.Tables.{Table, IsMapLease, first_endpoint, is_map_of}
use Rattle.pcp_base.proofs.Members.{IsIn-from_Contains, All-IsIn}
use Rattle.indexed_store.specs.Runs.{IsOwnerRun, map_run}
use Rattle.indexed_store.specs.Tabled.{AreTabled}
use Rattle.indexed_store.proofs.ChangeLemmas.{gone_tabled, seen_without_map, without_map}
use Rattle.indexed_store.proofs.LeavingLemmas.{all_live, leaving_same, pushed, leave_map, fewer_maps}
use Rattle.indexed_store.proofs.Views.{found_is}
use Rattle.indexed_store.proofs.leases.Leases.drop_map.Goals as goal

pub returns-in_default-clause-all : goal.returns-in_default-clause-all
returns-in_default-clause-all g c = λ _.
    all_live (λ (l : MapLease). nat_lt c.args.m l.expiry) c.args.self.now.found.maps
    c.in_default.ensures.none

pub run_of_map-requires : goal.run_of_map-requires
run_of_map-requires g c =
    let ls = c.args.self.now.found.maps in
    (All-IsIn IsMapLease ls c.in-Some.lease c.requires.maps.leases
    (IsIn-from_Contains ls c.in-Some.lease c.in-Some.ensures.among)).ports

-- what is left of the table that is seen
left_of : (t before : Table) (l : MapLease) (key : Endpoint) (maps : List MapLease) → before ≡ t → key ≡ first_endpoint l
    → maps ≡ filter (λ (x : MapLease). not (is_map_of key x)) before.maps → record before { maps = maps } ≡ without_map (first_endpoint l) t
left_of t before l key maps seen is are = seen_without_map key t before maps seen are ∙ ap (λ (e : Endpoint). without_map e t) is

pub returns-clause-leaving : goal.returns-clause-leaving
returns-clause-leaving g c = λ start h.
    let m = c.args.m in let t = c.args.self.now.found in let l = c.in-Some.lease in
    let left = c.args.left.now.items in
    let gone = left_of t _ l _ _ (found_is c.self.view_is) c.first_endpoint.ensures
    c.remove.ensures.removed.removed in
    let more = pushed left _ c.run_of_map.result (map_run l) c.in_ok-push.ensures.items
    c.run_of_map.ensures.value in
    let formed = subst IsOwnerRun c.run_of_map.ensures.value c.run_of_map.ensures.formed in
    leaving_same m start (without_map (first_endpoint l) t) _ (left ++ map_run l ∷ []) _ gone more
    (leave_map m t c.requires l c.in-Some.ensures.among c.in-Some.ensures.dead start left formed h)

pub returns-clause-sound : goal.returns-clause-sound
returns-clause-sound g c =
    let t = c.args.self.now.found in let l = c.in-Some.lease in
    let gone = left_of t _ l _ _ (found_is c.self.view_is) c.first_endpoint.ensures
    c.remove.ensures.removed.removed in
    subst AreTabled (sym gone) (gone_tabled c.args.m (first_endpoint l) t c.requires c.fewer_maps_are_sound.ensures)

pub returns-clause-fewer : goal.returns-clause-fewer
returns-clause-fewer g c = λ _.
    let m = c.args.m in let t = c.args.self.now.found in let l = c.in-Some.lease in
    let gone = left_of t _ l _ _ (found_is c.self.view_is) c.first_endpoint.ensures
    c.remove.ensures.removed.removed in
    subst (λ (x : Table). length x.maps < length t.maps) (sym gone)
    (fewer_maps m t c.requires l c.in-Some.ensures.among c.in-Some.ensures.dead)
