-- Where leases stand in an index (our own).
use Rattle.std.specs.Prelude.{ℕ, ◌+◌, ◌≤◌, ◌&&◌, ◌==◌, nat_le, nat_lt, not, Bool, false}
use Rattle.pcp_base.specs.declared.leases.MapLease.{MapLease}
use Rattle.pcp_base.specs.declared.leases.PeerLease.{PeerLease}
use Rattle.lane_index.specs.Ports.{slot_at}
use Rattle.lane_index.specs.Nonces.{no_nonce}
use Rattle.lane_index.specs.declared.cells.Cell.{Cell}
use Rattle.lane_index.specs.declared.cells.Cell.TheVariants.{Mapping, Peering}

-- what a cell keeps of a lease: all but its nonce and when it was granted
abbrev pub map_kept : MapLease → MapLease
map_kept l = record l { nonce = no_nonce; granted = 0 }

abbrev pub peer_kept : PeerLease → PeerLease
peer_kept l = record l { nonce = no_nonce; granted = 0 }

abbrev pub map_slot : MapLease → ℕ
map_slot l = slot_at l.protocol l.external

abbrev pub peer_slot : PeerLease → ℕ
peer_slot l = slot_at l.endpoint.protocol l.external

-- whether its lease was ended
abbrev pub is_ended : Cell → Bool
is_ended (Mapping l) = l.expiry == 0
is_ended (Peering l) = l.expiry == 0

-- whether it is a MAP lease that takes this slot
abbrev pub takes : ℕ → Cell → Bool
takes slot (Mapping l) = nat_le (map_slot l) slot && nat_lt slot (map_slot l + l.count)
takes slot (Peering l) = false

-- whether it is a PEER lease that stands in this slot: it wasn't ended
abbrev pub stands_in : ℕ → Cell → Bool
stands_in slot (Mapping l) = false
stands_in slot (Peering l) = (peer_slot l == slot) && not (l.expiry == 0)

-- whether it is a lease that is live at m
abbrev pub is_live : ℕ → Cell → Bool
is_live m (Mapping l) = nat_lt m l.expiry
is_live m (Peering l) = nat_lt m l.expiry

-- its external ports are ports
abbrev pub HasSlots : Cell → Type 0
HasSlots (Mapping l) = l.external + l.count ≤ 65536
HasSlots (Peering l) = l.external ≤ 65535
