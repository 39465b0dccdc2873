-- What the definitions give for a few requests.
use Rattle.std.specs.Prelude.{◌≡◌, refl, ℕ, Bool, true, false, List, [], ◌∷◌, Some, None, replicate}
use Rattle.pcp_base.specs.declared.addresses.Address.{Address}
use Rattle.pcp_base.specs.declared.addresses.Nonce.{Nonce}
use Rattle.pcp_base.specs.declared.codes.Code.TheVariants.{NotAuthorized, NoResources, UserExQuota, CannotProvideExternal, ExcessiveRemotePeers}
use Rattle.pcp_base.specs.declared.leases.Protocol.TheVariants.{Tcp, Udp}
use Rattle.pcp_base.specs.declared.leases.Endpoint.{Endpoint}
use Rattle.pcp_base.specs.declared.leases.Filter.{Filter}
use Rattle.pcp_base.specs.declared.leases.MapLease.{MapLease}
use Rattle.pcp_base.specs.declared.leases.PeerLease.{PeerLease}
use Rattle.pcp_base.specs.declared.asks.Ask.TheVariants as Asks
use Rattle.pcp_base.specs.declared.asks.MapAsk.{MapAsk}
use Rattle.pcp_base.specs.declared.asks.PeerAsk.{PeerAsk}
use Rattle.pcp_base.specs.declared.asks.PortSet.{PortSet}
use Rattle.pcp_base.specs.declared.asks.Answer.TheVariants.{Refused, Gone, Mapped, Peered}
use Rattle.pcp_base.specs.declared.records.Change.TheVariants.{Map, Peer, DropMap, DropPeer}
use Rattle.pcp_base.specs.States.{State}
use Rattle.filter_rules.specs.Lookups.{look}
use Rattle.lease_store.specs.declared.terms.Terms.{Terms}
use Rattle.lease_store.specs.Lookups.{next_inside}
use Rattle.lease_store.specs.Picks.{pick}
use Rattle.lease_core.specs.Answers.{answered, answered_with, refused, refused_until}
use Rattle.lease_core.specs.Decide.{inside_asked, is_picked, picking}
use Rattle.lease_core.specs.DecideMap.{decide_map}
use Rattle.lease_core.specs.DecidePeer.{decide_peer}

-- the external address is host 1; ports from low to high are given
abbrev terms : ℕ → ℕ → ℕ → Terms
terms low high quota = record {
  external = record { address = record { 0 = 1 ∷ [] }; low = low; high = high };
  quota = quota;
  lifetime_min = 120;
  lifetime_max = 86400;
}

abbrev host : ℕ → Address
host n = record { 0 = n ∷ [] }

abbrev nobody : Address
nobody = record { 0 = replicate 16 0 }

abbrev nonce : ℕ → Nonce
nonce n = record { 0 = n ∷ [] }

abbrev endpoint : ℕ → ℕ → Endpoint
endpoint n port = record { address = host n; protocol = Udp; port = port }

-- a request of host n for its port 65530, without options
abbrev ask : ℕ → ℕ → ℕ → MapAsk
ask n lifetime suggested = record {
  endpoint = endpoint n 65530;
  nonce = nonce 1;
  lifetime = lifetime;
  port = suggested;
  address = nobody;
  prefer = false;
  set = None;
  filters = [];
}

abbrev lease : ℕ → ℕ → ℕ → ℕ → MapLease
lease n count external expiry = record {
  address = host n;
  protocol = Udp;
  internal = 65530;
  count = count;
  external = external;
  nonce = nonce 1;
  granted = 1010;
  expiry = expiry;
  filters = [];
}

abbrev peer_ask : ℕ → PeerAsk
peer_ask lifetime = record {
  endpoint = endpoint 5 65530;
  nonce = nonce 1;
  lifetime = lifetime;
  port = 0;
  address = nobody;
  remote = host 98;
  remote_port = 53;
}

abbrev peer : ℕ → ℕ → PeerLease
peer external expiry = record {
  endpoint = endpoint 5 65530;
  external = external;
  remote = host 98;
  remote_port = 53;
  nonce = nonce 1;
  granted = 1010;
  expiry = expiry;
}

-- these leases after a Start at 1000 and a record at 1010
abbrev with : List MapLease → List PeerLease → State
with maps peers = record {
  table = record { maps = maps; peers = peers };
  ends = [];
  base = 1000;
  address = Some (host 1);
  last = 1010;
  started = true;
}

abbrev set : ℕ → ℕ → PortSet
set size first = record { size = size; first = first; parity = false }

-- ---- a request without options

granted : decide_map (terms 1024 1030 64) (with [] []) 1010 (ask 5 3600 0)
    ≡ answered_with 1010 (Mapped 3600 1024 (host 1) None) (Map (lease 5 1 1024 4610))
unfolding decide_map pick next_inside
granted = refl

-- a renewal moves the expiry alone
renewed : decide_map (terms 1024 1030 64) (with (lease 5 1 1024 4610 ∷ []) []) 1015 (ask 5 3600 0)
    ≡ answered_with 1015 (Mapped 3600 1024 (host 1) None) (Map (lease 5 1 1024 4615))
unfolding decide_map pick next_inside
renewed = refl

shortest : decide_map (terms 1024 1030 64) (with [] []) 1010 (ask 5 1 0)
    ≡ answered_with 1010 (Mapped 120 1024 (host 1) None) (Map (lease 5 1 1024 1130))
unfolding decide_map pick next_inside
shortest = refl

longest : decide_map (terms 1024 1030 64) (with [] []) 1010 (ask 5 4294967295 0)
    ≡ answered_with 1010 (Mapped 86400 1024 (host 1) None) (Map (lease 5 1 1024 87410))
unfolding decide_map pick next_inside
longest = refl

-- another nonce is told what the lease still has
other_nonce : decide_map (terms 1024 1030 64) (with (lease 5 1 1024 4610 ∷ []) []) 1020 (record (ask 5 3600 0) { nonce = nonce 2 })
    ≡ answered (Refused (record { code = NotAuthorized; parsed = true; lifetime = 3590 }))
unfolding decide_map pick next_inside
other_nonce = refl

nothing_gone : decide_map (terms 1024 1030 64) (with [] []) 1010 (ask 5 0 0) ≡ answered Gone
unfolding decide_map pick next_inside
nothing_gone = refl

-- a deletion takes the whole set
set_gone : decide_map (terms 1024 1030 64) (with (lease 5 4 1024 4610 ∷ []) []) 1010
    (record (ask 5 0 0) { endpoint = endpoint 5 65532 })
    ≡ answered_with 1010 Gone (DropMap (endpoint 5 65530))
unfolding decide_map pick next_inside
set_gone = refl

-- ---- suggestions, PREFER_FAILURE, quota

-- the suggested port is another's
moved : decide_map (terms 1024 1030 64) (with (lease 5 1 1024 4610 ∷ []) []) 1011 (ask 6 3600 1024)
    ≡ answered_with 1011 (Mapped 3600 1025 (host 1) None) (Map (record (lease 6 1 1025 4611) { granted = 1011 }))
unfolding decide_map pick next_inside
moved = refl

failed : decide_map (terms 1024 1030 64) (with (lease 5 1 1024 4610 ∷ []) []) 1011 (record (ask 6 3600 1024) { prefer = true })
    ≡ refused CannotProvideExternal
unfolding decide_map pick next_inside
failed = refl

-- the port is met, and the address isn't
elsewhere : decide_map (terms 1024 1030 64) (with [] []) 1011 (record (ask 6 3600 1024) { prefer = true; address = host 2 })
    ≡ refused CannotProvideExternal
unfolding decide_map pick next_inside
elsewhere = refl

over_quota : decide_map (terms 1024 1030 4) (with (lease 5 4 1024 4610 ∷ []) []) 1010
    (record (ask 5 3600 0) { endpoint = endpoint 5 65520 }) ≡ refused UserExQuota
unfolding decide_map pick next_inside
over_quota = refl

-- ports of leases that ended don't count
under_quota : decide_map (terms 1024 1030 4) (with (lease 5 4 1024 1130 ∷ []) []) 1300 (ask 5 3600 0)
    ≡ answered_with 1300 (Mapped 3600 1024 (host 1) None) (Map (record (lease 5 1 1024 4900) { granted = 1300 }))
unfolding decide_map pick next_inside
under_quota = refl

no_port : decide_map (terms 1024 1024 64) (with (lease 5 1 1024 4610 ∷ []) []) 1010 (ask 6 3600 0) ≡ refused NoResources
unfolding decide_map pick next_inside
no_port = refl

-- CANNOT_PROVIDE_EXTERNAL comes before NO_RESOURCES
no_port_wanted : decide_map (terms 1024 1024 64) (with (lease 5 1 1024 4610 ∷ []) []) 1010 (record (ask 6 3600 0) { prefer = true })
    ≡ refused CannotProvideExternal
unfolding decide_map pick next_inside
no_port_wanted = refl

-- ---- sets of ports

-- five ports are left of the eight that are asked for
few_ports : decide_map (terms 1024 1028 64) (with [] []) 1010 (record (ask 5 3600 0) { endpoint = endpoint 5 65520; set = Some (set 8 65520) })
    ≡ answered_with 1010 (Mapped 3600 1024 (host 1) (Some (set 5 65520))) (Map (record (lease 5 5 1024 4610) { internal = 65520 }))
unfolding decide_map pick next_inside
few_ports = refl

-- a request from within the set is told the whole of it where it asks for a set
within_set : decide_map (terms 1024 1028 64) (with (lease 5 5 1024 4610 ∷ []) []) 1010
    (record (ask 5 3600 0) { endpoint = endpoint 5 65532; set = Some (set 1 65532) })
    ≡ answered_with 1010 (Mapped 3600 1024 (host 1) (Some (set 5 65530))) (Map (lease 5 5 1024 4610))
unfolding decide_map pick next_inside
within_set = refl

-- and its own port where it doesn't
own_port : decide_map (terms 1024 1028 64) (with (lease 5 5 1024 4610 ∷ []) []) 1010 (record (ask 5 3600 0) { endpoint = endpoint 5 65532 })
    ≡ answered_with 1010 (Mapped 3600 1026 (host 1) None) (Map (lease 5 5 1024 4610))
unfolding decide_map pick next_inside
own_port = refl

-- a set ends before the next internal port in use
up_to_next : decide_map (terms 1024 1030 64) (with (lease 5 1 1024 4610 ∷ []) []) 1010
    (record (ask 5 3600 0) { endpoint = endpoint 5 65528; set = Some (set 8 65528) })
    ≡ answered_with 1010 (Mapped 3600 1025 (host 1) (Some (set 2 65528))) (Map (record (lease 5 2 1025 4610) { internal = 65528 }))
unfolding decide_map pick next_inside
up_to_next = refl

-- an odd internal port with the parity bit is given an odd external one
odd : decide_map (terms 1024 1030 64) (with [] []) 1010
    (record (ask 5 3600 0) { endpoint = endpoint 5 65531; set = Some (record (set 2 65531) { parity = true }) })
    ≡ answered_with 1010 (Mapped 3600 1025 (host 1) (Some (record (set 2 65531) { parity = true })))
    (Map (record (lease 5 2 1025 4610) { internal = 65531 }))
unfolding decide_map pick next_inside
odd = refl

-- one port is no set
no_set : decide_map (terms 1024 1030 64) (with [] []) 1010 (record (ask 5 3600 0) { set = Some (set 1 65530) })
    ≡ answered_with 1010 (Mapped 3600 1024 (host 1) None) (Map (lease 5 1 1024 4610))
unfolding decide_map pick next_inside
no_set = refl

-- ---- ports that rest

-- a lease that ended at 1130 leaves its port to its own endpoint until 1250
to_another : decide_map (terms 1024 1030 64) (with (lease 5 1 1024 1130 ∷ []) []) 1249 (ask 6 3600 1024)
    ≡ answered_with 1249 (Mapped 3600 1025 (host 1) None) (Map (record (lease 6 1 1025 4849) { granted = 1249 }))
unfolding decide_map pick next_inside
to_another = refl

back_to_it : decide_map (terms 1024 1030 64) (with (lease 5 1 1024 1130 ∷ []) []) 1249 (ask 5 3600 1024)
    ≡ answered_with 1249 (Mapped 3600 1024 (host 1) None) (Map (record (lease 5 1 1024 4849) { granted = 1249 }))
unfolding decide_map pick next_inside
back_to_it = refl

to_all : decide_map (terms 1024 1030 64) (with (lease 5 1 1024 1130 ∷ []) []) 1250 (ask 6 3600 0)
    ≡ answered_with 1250 (Mapped 3600 1024 (host 1) None) (Map (record (lease 6 1 1024 4850) { granted = 1250 }))
unfolding decide_map pick next_inside
to_all = refl

-- ---- filters

abbrev filter_of : ℕ → ℕ → Filter
filter_of prefix port = record { prefix = prefix; port = port; remote = host 7 }

-- a filter of prefix 0 empties the list, and the next begins it anew
refiltered : decide_map (terms 1024 1030 64) (with (record (lease 5 1 1024 4610) { filters = filter_of 128 0 ∷ [] } ∷ []) []) 1010
    (record (ask 5 3600 0) { filters = filter_of 0 0 ∷ filter_of 120 53 ∷ [] })
    ≡ answered_with 1010 (Mapped 3600 1024 (host 1) None) (Map (record (lease 5 1 1024 4610) { filters = filter_of 120 53 ∷ [] }))
unfolding decide_map pick next_inside
refiltered = refl

-- without one they are added to the old ones
more_filters : decide_map (terms 1024 1030 64) (with (record (lease 5 1 1024 4610) { filters = filter_of 128 1 ∷ [] } ∷ []) []) 1010
    (record (ask 5 3600 0) { filters = filter_of 128 1 ∷ filter_of 128 2 ∷ [] })
    ≡ answered_with 1010 (Mapped 3600 1024 (host 1) None) (Map (record (lease 5 1 1024 4610) { filters = filter_of 128 1 ∷ filter_of 128 2 ∷ [] }))
unfolding decide_map pick next_inside
more_filters = refl

abbrev eight : List Filter
eight = filter_of 128 1 ∷ filter_of 128 2 ∷ filter_of 128 3 ∷ filter_of 128 4 ∷ filter_of 128 5 ∷ filter_of 128 6
    ∷ filter_of 128 7 ∷ filter_of 128 8 ∷ []

ninth : decide_map (terms 1024 1030 64) (with (record (lease 5 1 1024 4610) { filters = eight } ∷ []) []) 1010
    (record (ask 5 3600 0) { filters = filter_of 128 9 ∷ [] }) ≡ refused ExcessiveRemotePeers
unfolding decide_map pick next_inside
ninth = refl

-- ---- PEER requests

peered : decide_peer (terms 1024 1030 64) (with [] []) 1010 (peer_ask 3600)
    ≡ answered_with 1010 (Peered 3600 1024 (host 1)) (Peer (peer 1024 4610))
unfolding decide_peer pick
peered = refl

-- an endpoint has one external port, by MAP and PEER leases
same_port : decide_map (terms 1024 1030 64) (with [] (peer 1026 4610 ∷ [])) 1010 (ask 5 3600 1025)
    ≡ answered_with 1010 (Mapped 3600 1026 (host 1) None) (Map (lease 5 1 1026 4610))
unfolding decide_map pick next_inside
same_port = refl

port_within_set : decide_peer (terms 1024 1030 64) (with (record (lease 5 3 1025 4610) { internal = 65529 } ∷ []) []) 1010 (peer_ask 3600)
    ≡ answered_with 1010 (Peered 3600 1026 (host 1)) (Peer (peer 1026 4610))
unfolding decide_peer pick
port_within_set = refl

-- the quota isn't asked for a port that the endpoint has
same_port_over_quota : decide_map (terms 1024 1030 1) (with [] (peer 1026 4610 ∷ [])) 1010 (ask 5 3600 0)
    ≡ answered_with 1010 (Mapped 3600 1026 (host 1) None) (Map (lease 5 1 1026 4610))
unfolding decide_map pick next_inside
same_port_over_quota = refl

peer_gone : decide_peer (terms 1024 1030 64) (with [] (peer 1026 4610 ∷ [])) 1010 (peer_ask 0)
    ≡ answered_with 1010 Gone (DropPeer (endpoint 5 65530) (host 98) 53)
unfolding decide_peer pick
peer_gone = refl

other_peer_nonce : decide_peer (terms 1024 1030 64) (with [] (peer 1026 4610 ∷ [])) 1020 (record (peer_ask 0) { nonce = nonce 2 })
    ≡ refused_until 1020 4610
unfolding decide_peer pick
other_peer_nonce = refl

peer_renewed : decide_peer (terms 1024 1030 64) (with [] (peer 1026 4610 ∷ [])) 1020 (peer_ask 3600)
    ≡ answered_with 1020 (Peered 3600 1026 (host 1)) (Peer (peer 1026 4620))
unfolding decide_peer pick
peer_renewed = refl

-- ---- what it takes

-- ports are picked for a new lease
new_is_picked : is_picked (with [] []) 1010 (Asks.Map (ask 5 3600 0)) ≡ true
new_is_picked = refl

new_peer_is_picked : is_picked (with [] []) 1010 (Asks.Peer (peer_ask 3600)) ≡ true
new_peer_is_picked = refl

-- and none for a renewal, a deletion, or an endpoint that has a port
renewal_picks_none : is_picked (with (lease 5 1 1024 4610 ∷ []) []) 1010 (Asks.Map (ask 5 3600 0)) ≡ false
renewal_picks_none = refl

peer_renewal_picks_none : is_picked (with [] (peer 1026 4610 ∷ [])) 1010 (Asks.Peer (peer_ask 3600)) ≡ false
peer_renewal_picks_none = refl

deletion_picks_none : is_picked (with [] []) 1010 (Asks.Map (ask 5 0 0)) ≡ false
deletion_picks_none = refl

peer_deletion_picks_none : is_picked (with [] []) 1010 (Asks.Peer (peer_ask 0)) ≡ false
peer_deletion_picks_none = refl

named_picks_none : is_picked (with [] (peer 1026 4610 ∷ [])) 1010 (Asks.Map (ask 5 3600 0)) ≡ false
named_picks_none = refl

covered_picks_none : is_picked (with (lease 5 1 1024 4610 ∷ []) []) 1010 (Asks.Peer (peer_ask 3600)) ≡ false
covered_picks_none = refl

-- what a pick takes here: one of one port of any parity less than others
abbrev pick_by : Address → Bool → ℕ
pick_by who true = 100
pick_by who false = 1000

-- one port is looked up nowhere inside, a set at each of its ports, up to 4,096
one_port_picked : picking 10 pick_by (Asks.Map (ask 5 3600 0)) ≡ 101
one_port_picked = refl

peer_picked : picking 10 pick_by (Asks.Peer (peer_ask 3600)) ≡ 101
peer_picked = refl

parity_picked : picking 10 pick_by (Asks.Map (record (ask 5 3600 0) { set = Some (record (set 1 65530) { parity = true }) })) ≡ 1001
parity_picked = refl

set_picked : picking 10 pick_by (Asks.Map (record (ask 5 3600 0) { set = Some (set 8 65530) })) ≡ 1088
set_picked = refl

most_inside : inside_asked (Asks.Map (record (ask 5 3600 0) { set = Some (set 65535 65530) })) ≡ 4096
most_inside = refl

-- ---- lookups

-- through the port of a PEER lease its remote alone may send
by_peer : look (with [] (peer 1024 4610 ∷ [])) Udp 1024 (host 98) 53 1010 ≡ Some (endpoint 5 65530)
by_peer = refl

not_by_peer : look (with [] (peer 1024 4610 ∷ [])) Udp 1024 (host 98) 54 1010 ≡ None
not_by_peer = refl

last_second : look (with (lease 5 1 1024 1130 ∷ []) []) Udp 1024 (host 7) 9 1129 ≡ Some (endpoint 5 65530)
last_second = refl

ended : look (with (lease 5 1 1024 1130 ∷ []) []) Udp 1024 (host 7) 9 1130 ≡ None
ended = refl

-- a moment before the last record counts as its moment
raised : look (with (lease 5 1 1024 1005 ∷ []) []) Udp 1024 (host 7) 9 1000 ≡ None
raised = refl

not_tcp : look (with (lease 5 1 1024 1130 ∷ []) []) Tcp 1024 (host 7) 9 1010 ≡ None
not_tcp = refl
