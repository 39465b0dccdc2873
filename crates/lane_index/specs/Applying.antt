-- What a record does to the cells (our own).
use Rattle.std.specs.Prelude.{ℕ, ◌+◌, ◌<◌, ◌≤◌, ⊤, ◌==◌, nat_le, nat_lt, Bool, true, List, [], ◌∷◌, ◌++◌, length, map, filter, if◌then◌else◌}
use Rattle.pcp_base.specs.declared.addresses.Address.{Address}
use Rattle.pcp_base.specs.declared.leases.Endpoint.{Endpoint}
use Rattle.pcp_base.specs.declared.leases.Filter.{Filter}
use Rattle.pcp_base.specs.declared.records.Change.{Change}
use Rattle.pcp_base.specs.declared.records.Change.TheVariants.{Start, Map, Peer, DropMap, DropPeer, Lose}
use Rattle.pcp_base.specs.declared.records.Record.{Record}
use Rattle.pcp_base.specs.Tables.{first_endpoint, is_map_of, is_peer_of}
use Rattle.lane_index.specs.declared.links.TheConstants.{CELLS}
use Rattle.lane_index.specs.declared.keys.LeaseKey.{LeaseKey}
use Rattle.lane_index.specs.declared.keys.LeaseKey.TheVariants.{OfMap, OfPeer}
use Rattle.lane_index.specs.declared.cells.Cell.{Cell}
use Rattle.lane_index.specs.declared.cells.Cell.TheVariants.{Mapping, Peering}
use Rattle.lane_index.specs.Slots.{map_kept, peer_kept, is_live}

-- a MAP lease with this key is ended
abbrev pub map_ended : Endpoint → Cell → Cell
map_ended key (Mapping l) = if is_map_of key l then Mapping (record l { expiry = 0 }) else Mapping l
map_ended key (Peering l) = Peering l

-- a PEER lease with this key is ended
abbrev pub peer_ended : Endpoint → Address → ℕ → Cell → Cell
peer_ended e remote port (Mapping l) = Mapping l
peer_ended e remote port (Peering l) =
    if is_peer_of e remote port l then Peering (record l { expiry = 0 }) else Peering l

-- the leases with this key are ended
abbrev pub ended : LeaseKey → Cell → Cell
ended (OfMap e) = map_ended e
ended (OfPeer e remote port) = peer_ended e remote port

-- its lease is ended
abbrev pub finished : Cell → Cell
finished (Mapping l) = Mapping (record l { expiry = 0 })
finished (Peering l) = Peering (record l { expiry = 0 })

-- where no cell is free, those of leases that aren't live at m are freed
abbrev pub with_room : ℕ → List Cell → List Cell
with_room m cells = if length cells == CELLS then filter (is_live m) cells else cells

-- the cells after a deletion, which a lease with that key begins with too
abbrev pub without_old : Change → List Cell → List Cell
without_old (Map l) cells = map (map_ended (first_endpoint l)) cells
without_old (Peer l) cells = map (peer_ended l.endpoint l.remote l.remote_port) cells
without_old (DropMap e) cells = map (map_ended e) cells
without_old (DropPeer e remote port) cells = map (peer_ended e remote port) cells
without_old Start cells = []
without_old Lose cells = []
without_old change cells = cells

-- a new lease takes a cell
abbrev pub with_new : ℕ → Change → List Cell → List Cell
with_new m (Map l) cells = with_room m cells ++ Mapping (map_kept l) ∷ []
with_new m (Peer l) cells = with_room m cells ++ Peering (peer_kept l) ∷ []
with_new m change cells = cells

abbrev pub applied : Record → List Cell → List Cell
applied r cells = with_new r.moment r.change (without_old r.change cells)

-- the ports of its lease are ports
abbrev pub ChangeHasSlots : Change → Type 0
ChangeHasSlots (Map l) = l.external + l.count ≤ 65536
ChangeHasSlots change = ⊤

-- the same, as a test
abbrev pub has_slots : Change → Bool
has_slots (Map l) = nat_le (l.external + l.count) 65536
has_slots change = true

-- the filters of its lease
abbrev pub filters_in : Change → List Filter
filters_in (Map l) = l.filters
filters_in change = []

-- there is a cell for a new lease
abbrev pub HasCell : Record → List Cell → Type 0
HasCell r cells = length (with_room r.moment (without_old r.change cells)) < CELLS

-- a lease takes a cell where one is free
abbrev pub with_cell : Cell → List Cell → List Cell
with_cell c cells = if nat_lt (length cells) CELLS then cells ++ c ∷ [] else cells

abbrev pub fitting : ℕ → Change → List Cell → List Cell
fitting m (Map l) cells = with_cell (Mapping (map_kept l)) (with_room m cells)
fitting m (Peer l) cells = with_cell (Peering (peer_kept l)) (with_room m cells)
fitting m change cells = cells

-- the cells after a record, whether or not there is a cell for its lease
abbrev pub fitted : Record → List Cell → List Cell
fitted r cells = fitting r.moment r.change (without_old r.change cells)
