-- How an external port rests after its last lease (our own).
use Rattle.std.specs.Prelude.{◌≡◌, ℕ, ◌+◌, ◌≤◌, ◌&&◌, ◌||◌, ◌==◌, nat_lt, not, Bool, false, List, [], ◌∷◌, ◌++◌, map, flat_map, filter, Contains, if◌then◌else◌}
use Rattle.std.specs.List.{list_any}
use Rattle.pcp_base.specs.declared.leases.TheConstants.{REST_SECONDS}
use Rattle.pcp_base.specs.declared.leases.Protocol.{Protocol}
use Rattle.pcp_base.specs.declared.leases.Endpoint.{Endpoint}
use Rattle.pcp_base.specs.declared.leases.Owner.{Owner}
use Rattle.pcp_base.specs.declared.leases.End.{End}
use Rattle.pcp_base.specs.Protocols.{protocol_number}
use Rattle.pcp_base.specs.Tables.{Table, live, dead, same_endpoint}
use Rattle.pcp_base.specs.Owners.{map_owners, peer_owner, owners, is_owned}
use Rattle.pcp_base.specs.States.{State}

-- the owner's port ended at this moment
abbrev pub end_at : ℕ → Owner → End
end_at moment o = record { endpoint = o.endpoint; external = o.external; end = moment }

-- the ports of these leases, each ended at its lease's expiry
abbrev pub ends_at_expiry : Table → List End
ends_at_expiry t = flat_map (λ l. map (end_at l.expiry) (map_owners l)) t.maps
    ++ map (λ l. end_at l.expiry (peer_owner l)) t.peers

-- the order of ends: by protocol number, then by port
abbrev pub is_before : End → End → Bool
is_before a b = nat_lt (protocol_number a.endpoint.protocol) (protocol_number b.endpoint.protocol)
    || (protocol_number a.endpoint.protocol == protocol_number b.endpoint.protocol
    && nat_lt a.external b.external)

-- one more end, in its place; where its port has an end, the later of the two counts
abbrev pub with_end : End → List End → List End
with_end e [] = e ∷ []
with_end e (x ∷ xs) =
    if is_before e x then e ∷ x ∷ xs
    else if is_before x e then x ∷ with_end e xs
    else (if nat_lt x.end e.end then e else x) ∷ xs

abbrev pub with_ends : List End → List End → List End
with_ends [] ends = ends
with_ends (e ∷ es) ends = with_end e (with_ends es ends)

-- whether the end's port is one of these owned ports
abbrev pub is_owned_by : List Owner → End → Bool
is_owned_by os e = is_owned e.endpoint.protocol e.external os

-- The ends, and of what leases left those whose port no lease of the table owns.
abbrev pub with_left : Table → List End → List End → List End
with_left t left ends = with_ends (filter (λ e. not (is_owned_by (owners t) e)) left) ends

-- the ends at m: those of the state, and those of leases that aren't live at m
abbrev pub ends_by : State → ℕ → List End
ends_by s m = with_left (live s.table m) (ends_at_expiry (dead s.table m)) s.ends

-- whether a port that ended then rests at m
abbrev pub is_recent : ℕ → End → Bool
is_recent m e = nat_lt m (e.end + REST_SECONDS)

-- the ends by which ports rest at m: recent, and no live lease owns the port
abbrev pub resting : State → ℕ → List End
resting s m = filter (λ e. is_recent m e && not (is_owned_by (owners (live s.table m)) e)) (ends_by s m)

-- whether it is an end of this port
abbrev pub is_end_of : Protocol → ℕ → End → Bool
is_end_of protocol port e =
    protocol_number e.endpoint.protocol == protocol_number protocol && e.external == port

-- whether the port of the endpoint's protocol rests at m for this endpoint
abbrev pub rests_for : State → ℕ → ℕ → Endpoint → Bool
rests_for s m port e = list_any (λ x. same_endpoint x.endpoint e && x.external == port) (resting s m)

-- whether the port rests at m for some endpoint
abbrev pub rests : State → ℕ → Protocol → ℕ → Bool
rests s m protocol port = list_any (is_end_of protocol port) (resting s m)

-- A lease that isn't live at m left this end; no live lease owns its port, and no lease left a later end of it.
pub record HasEnded (s : State) (m : ℕ) (e : End) : Type 0 where
  pub left : Contains (ends_at_expiry (dead s.table m)) e
  pub unowned : is_owned_by (owners (live s.table m)) e ≡ false
  pub latest : (f : End) → Contains (ends_at_expiry (dead s.table m)) f →
      f.endpoint.protocol ≡ e.endpoint.protocol → f.external ≡ e.external → f.end ≤ e.end
