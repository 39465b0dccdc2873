-- When two owned ports may stand side by side, and when a port that rests may be taken (our own).
use Rattle.std.specs.Prelude.{◌&&◌, ◌||◌, ◌==◌, not, Bool, List, if◌then◌else◌}
use Rattle.std.specs.List.{list_all}
use Rattle.pcp_base.specs.declared.leases.End.{End}
use Rattle.pcp_base.specs.declared.leases.MapLease.{MapLease}
use Rattle.pcp_base.specs.declared.leases.Endpoint.{Endpoint}
use Rattle.pcp_base.specs.declared.leases.Owner.{Owner}
use Rattle.pcp_base.specs.Tables.{covers, first_endpoint, same_endpoint}
use Rattle.pcp_base.specs.Owners.{is_port}

-- one endpoint has one port, and one port one endpoint
abbrev pub agrees : Owner → Owner → Bool
agrees p q = if same_endpoint p.endpoint q.endpoint then p.external == q.external
    else not (is_port q.protocol q.external p)

abbrev pub all_agree : List Owner → List Owner → Bool
all_agree os ps = list_all (λ p. list_all (agrees p) ps) os

abbrev pub both_cover : MapLease → MapLease → Endpoint → Bool
both_cover a b e = covers a e && covers b e

-- neither's first endpoint is covered by both
abbrev pub no_first_covered : MapLease → MapLease → Bool
no_first_covered a b = not (both_cover a b (first_endpoint a)) && not (both_cover a b (first_endpoint b))

-- the port didn't end for another endpoint
abbrev pub leaves : Owner → End → Bool
leaves o x = not (is_port x.endpoint.protocol x.external o) || same_endpoint x.endpoint o.endpoint

-- none of the ports ended for another endpoint
abbrev pub leave_all : List End → List Owner → Bool
leave_all ends os = list_all (λ o. list_all (leaves o) ends) os
