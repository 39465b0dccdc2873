-- Keys of leases, and the buckets that they fall into (our own).
use Rattle.std.specs.Prelude.{ℕ, ◌+◌, ◌*◌, ◌%◌, ◌==◌, ◌&&◌, not, Bool, false}
use Rattle.std.specs.Int.{from_be_bytes, w128}
use Rattle.pcp_base.specs.declared.addresses.Address.{Address}
use Rattle.pcp_base.specs.Tables.{first_endpoint, is_map_of, is_peer_of}
use Rattle.lane_index.specs.declared.keys.LeaseKey.{LeaseKey}
use Rattle.lane_index.specs.declared.keys.LeaseKey.TheVariants.{OfMap, OfPeer}
use Rattle.lane_index.specs.declared.cells.Cell.{Cell}
use Rattle.lane_index.specs.declared.cells.Cell.TheVariants.{Mapping, Peering}
use Rattle.lane_index.specs.Slots.{is_ended}

-- the bucket of an address and a port
unfoldable pub bucket_at : Address → ℕ → ℕ
bucket_at a port = (from_be_bytes w128 a.0 % 32749 + 20239 * port) % 32749

-- the bucket of leases with this key
unfoldable pub bucket_of : LeaseKey → ℕ
bucket_of (OfMap e) = bucket_at e.address e.port
bucket_of (OfPeer e remote port) =
    (bucket_at e.address e.port + 12503 * bucket_at remote port) % 32749

-- the key of the lease of a cell
abbrev pub key_of : Cell → LeaseKey
key_of (Mapping l) = OfMap (first_endpoint l)
key_of (Peering l) = OfPeer l.endpoint l.remote l.remote_port

-- whether its lease has this key
abbrev pub has_key : LeaseKey → Cell → Bool
has_key (OfMap e) (Mapping l) = is_map_of e l
has_key (OfMap e) (Peering l) = false
has_key (OfPeer e remote port) (Mapping l) = false
has_key (OfPeer e remote port) (Peering l) = is_peer_of e remote port l

-- whether it is found by a key of this bucket: it wasn't ended
abbrev pub is_keyed : ℕ → Cell → Bool
is_keyed bucket c = (bucket_of (key_of c) == bucket) && not (is_ended c)
