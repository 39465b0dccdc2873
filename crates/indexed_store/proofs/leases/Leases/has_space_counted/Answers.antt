use Rattle.std.proofs.Common.{◌≡◌, ℕ, List, ◌+◌, ◌≤◌, true, nat_lt, length, sym, ap, subst, ◌∙◌, arith}
use Rattle.pcp_base.specs.declared.leases.TheConstants.{MOST_LEASES}
use Rattle.pcp_base.specs.declared.leases.MapLease.{MapLease}
use Rattle.pcp_base.specs.declared.leases.PeerLease.{PeerLease}
use Rattle.pcp_base.specs.Tables.{Table}
use Rattle.lease_store.specs.Lookups.{lease_count}
use Rattle.indexed_store.specs.Tabled.{AreTabled}
use Rattle.indexed_store.proofs.SpaceLemmas.{space-few, space-map, space-peer}
use Rattle.indexed_store.proofs.Views.{found_is}
use Rattle.indexed_store.proofs.leases.Leases.has_space_counted.Goals as goal

abbrev seen : List MapLease → List PeerLease → Table
seen maps peers = record { maps = maps; peers = peers }

pub returns-then-len-lt-MOST_LEASES-clause-space : goal.returns-then-len-lt-MOST_LEASES-clause-space
returns-then-len-lt-MOST_LEASES-clause-space g c =
    let few = (subst AreTabled (sym (found_is c.self.view_is)) c.requires).few in
    let less = c.if-len-lt-MOST_LEASES.true in let maps = c.len.ensures in let peers = c.len-2.ensures in
    space-few (seen c.self.inside.maps.found c.self.inside.peers.found) c.args.m few (omega (arith, less, maps, peers))
    ∙ ap (λ (t : Table). nat_lt (lease_count t c.args.m) MOST_LEASES) (found_is c.self.view_is)

pub returns-then-has_ended-clause-space : goal.returns-then-has_ended-clause-space
returns-then-has_ended-clause-space g c =
    space-map (seen c.self.inside.maps.found c.self.inside.peers.found) c.args.m (subst AreTabled (sym (found_is c.self.view_is)) c.requires).few (sym c.has_ended.ensures.ended ∙ c.if-has_ended.true)
    ∙ ap (λ (t : Table). nat_lt (lease_count t c.args.m) MOST_LEASES) (found_is c.self.view_is)

pub returns-clause-space : goal.returns-clause-space
returns-clause-space g c =
    let full = c.if-len-lt-MOST_LEASES.false in let maps = c.len.ensures in let peers = c.len-2.ensures in
    space-peer (seen c.self.inside.maps.found c.self.inside.peers.found) c.args.m (subst AreTabled (sym (found_is c.self.view_is)) c.requires).few (omega (arith, full, maps, peers))
    (sym c.has_ended.ensures.ended ∙ c.if-has_ended.false) c.has_ended-2.result (sym c.has_ended-2.ensures.ended)
    ∙ ap (λ (t : Table). nat_lt (lease_count t c.args.m) MOST_LEASES) (found_is c.self.view_is)
