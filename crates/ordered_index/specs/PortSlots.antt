-- How the slots of leases are kept by external ports (our own; for proofs alone).
use Rattle.std.specs.Prelude.{◌≡◌, ℕ, ◌<◌, ◌%◌, nat_lt, Bool, List, [], ◌∷◌, length, slice_index, Option, Some, None, IsSome, if◌then◌else◌}
use Rattle.std.specs.Option.{option_map}
use Rattle.std.specs.Map.{remove_entry}
use Rattle.std.specs.BTreeMap.{BTreeMap, IsOrdered, get, is_at, insert_entry}
use Rattle.std.specs.Coded.{Coded, coded×, coded_ℕ}
use Rattle.std_collections.specs.Layout.BTreeMap.{btree_map, btree_map_code}
use Rattle.ordered_index.specs.Marks.{is_marked}
use Rattle.ordered_index.specs.Orders.{port_cmp, IsLast}
use Rattle.ordered_index.specs.declared.slots.TheConstants.{MOST_SLOTS}
use Rattle.ordered_index.specs.declared.marks.TheConstants.{MOST_MARKS}
use mathlib.Core.Logic.{inl}

abbrev PortMap : Type 0
PortMap = BTreeMap (ℕ × ℕ) ℕ

abbrev pub port_map_code : Coded PortMap
port_map_code = btree_map_code (coded× coded_ℕ coded_ℕ) coded_ℕ

-- the protocol number and the port with a place: those of TCP, and behind them those of UDP
abbrev pub port_of : ℕ → ℕ × ℕ
port_of place = (if nat_lt place 65536 then 6 else 17, place % 65536)

-- the map with these entries
abbrev pub map_of : List ((ℕ × ℕ) × ℕ) → PortMap
map_of entries = btree_map entries (inl tt)

-- the one map that is noted, and no entry where none is
abbrev pub noted : List PortMap → PortMap
noted [] = map_of []
noted (map ∷ rest) = map

-- the note with a number under a port, and without one
abbrev pub with_port : ℕ × ℕ → ℕ → List PortMap → List PortMap
with_port port number note = map_of (insert_entry port_cmp (noted note).entries port number) ∷ []

abbrev pub without_port : ℕ × ℕ → List PortMap → List PortMap
without_port port note = map_of (remove_entry (is_at (port_cmp port)) (noted note).entries) ∷ []

-- the slot that a number names
abbrev pub slot_of : Option ℕ → Option ℕ
slot_of number = option_map (λ n. n % MOST_SLOTS) number

-- a slot, if there is one
abbrev pub slot_if : Bool → ℕ → Option ℕ
slot_if there slot = if there then Some slot else None

-- each place with a mark has the slot of the number under its port, and no other port has a number
pub record ArePortSlots (slots marks : List ℕ) (map : PortMap) : Type 0 where
  pub ordered : IsOrdered port_cmp map
  pub all : length slots ≡ MOST_MARKS
  pub tells : (place : ℕ) → place < MOST_MARKS
      → slot_if (is_marked marks place) (slice_index slots place)
      ≡ slot_of (get port_cmp map (port_of place))
  pub placed : (port : ℕ × ℕ) → IsSome (get port_cmp map port)
      → (place : ℕ) × (place < MOST_MARKS) × (port ≡ port_of place)

-- the slot of the number of the last port up to this one, None where there is none
pub record IsLastSlot (map : PortMap) (port : ℕ × ℕ) (slot : Option ℕ) : Type 0 where
  pub number : Option ℕ
  pub last : IsLast port_cmp map port number
  pub named : slot ≡ slot_of number
