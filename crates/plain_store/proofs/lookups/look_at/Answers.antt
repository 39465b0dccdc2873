use Rattle.std.proofs.Common.{◌∙◌, sym, subst, filter, Bool}
use Rattle.std.specs.List.{AllByRecursion}
use Rattle.pcp_base.specs.declared.leases.MapLease.{MapLease}
use Rattle.pcp_base.specs.Tables.{IsMapLease, live}
use Rattle.filter_rules.specs.Filters.{allows}
use Rattle.filter_rules.specs.Lookups.{is_with}
use Rattle.pcp_base.proofs.OwnerLooks.{found_in}
use Rattle.plain_store.proofs.lookups.look_at.Goals as goal

pub behind_map-requires : goal.behind_map-requires
behind_map-requires c = subst (AllByRecursion IsMapLease) (sym c.maps.ensures) c.requires.sound.table.maps

pub returns : goal.returns
returns c =
    let t = live c.args.replay.now.table c.args.m in
    let passes : MapLease → Bool = λ l. allows l.filters c.args.remote.now c.args.remote_port in
    c.or.ensures ∙ rw (c.behind_map.ensures, c.behind_peer.ensures, c.maps.ensures, c.peers.ensures)
    (sym (found_in c.args.protocol c.args.port (filter passes t.maps) (filter (is_with c.args.remote.now c.args.remote_port) t.peers)))
