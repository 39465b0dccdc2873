-- What is asked of a lease table at a moment (our own).
use Rattle.std.specs.Prelude.{ℕ, ◌+◌, ◌-◌, ◌||◌, min, Bool, length, find, count_by, Option, Some, None}
use Rattle.std.specs.List.{list_any, range_with_len}
use Rattle.std.specs.Option.{option_map}
use Rattle.pcp_base.specs.declared.addresses.Address.{Address}
use Rattle.pcp_base.specs.declared.leases.Endpoint.{Endpoint}
use Rattle.pcp_base.specs.declared.leases.MapLease.{MapLease}
use Rattle.pcp_base.specs.declared.leases.PeerLease.{PeerLease}
use Rattle.pcp_base.specs.Tables.{Table, live, covers, names, is_peer_of}

-- the live MAP lease that covers the endpoint
abbrev pub covering : Table → ℕ → Endpoint → Option MapLease
covering t m e = find (λ l. covers l e) (live t m).maps

-- the live PEER lease with this key: its endpoint, remote address and remote port
abbrev pub peering : Table → ℕ → Endpoint → Address → ℕ → Option PeerLease
peering t m e remote remote_port = find (is_peer_of e remote remote_port) (live t m).peers

-- the external port of the live PEER leases that name the endpoint
abbrev pub named_port : Table → ℕ → Endpoint → Option ℕ
named_port t m e = option_map (λ l. l.external) (find (λ l. names l e) (live t m).peers)

-- how many live PEER leases name the endpoint
abbrev pub peer_count : Table → ℕ → Endpoint → ℕ
peer_count t m e = count_by (λ l. names l e) (live t m).peers

-- how many leases are live, MAP and PEER together
abbrev pub lease_count : Table → ℕ → ℕ
lease_count t m = length (live t m).maps + length (live t m).peers

-- this port of the endpoint's address and protocol
abbrev pub with_port : Endpoint → ℕ → Endpoint
with_port e port = record { address = e.address; protocol = e.protocol; port = port }

-- whether a live lease covers or names this port of the endpoint's address and protocol
abbrev pub is_taken_inside : Table → ℕ → Endpoint → ℕ → Bool
is_taken_inside t m e port = list_any (λ l. covers l (with_port e port)) (live t m).maps
    || list_any (λ l. names l (with_port e port)) (live t m).peers

-- the next greater internal port, of the endpoint's address and protocol, that a live lease covers
-- or names
unfoldable pub next_inside : Table → ℕ → Endpoint → Option ℕ
next_inside t m e = find (is_taken_inside t m e) (range_with_len (e.port + 1) (65535 - e.port))

-- no more ports than up to the next internal port in use
abbrev pub up_to_next : Option ℕ → ℕ → ℕ → ℕ
up_to_next None internal room = room
up_to_next (Some next) internal room = min room (next - internal)
