-- What holds of the MAP leases of a table.
use Rattle.std.specs.Prelude.{◌≡◌, ◌<◌, Bool, false, List, length, filter, None}
use Rattle.std.specs.List.{list_any}
use Rattle.pcp_base.specs.declared.leases.TheConstants.{MOST_LEASES}
use Rattle.pcp_base.specs.declared.leases.MapLease.{MapLease}
use Rattle.pcp_base.specs.Tables.{Table, IsMapLease, first_endpoint}
use Rattle.pcp_base.specs.Sound.{Sound}
use Rattle.mapping_table.specs.MapLists.{AreSoundMaps, map_with_key, overlaps, with_map}

-- the MAP leases of a sound table are sound by themselves
abbrev pub SoundTablesHaveSoundMaps : Type 0
SoundTablesHaveSoundMaps = (t : Table) → Sound t → AreSoundMaps t.maps

-- of sound leases, those that pass a test are sound
abbrev pub FewerMapsAreSound : Type 0
FewerMapsAreSound = (test : MapLease → Bool) (ls : List MapLease)
    → AreSoundMaps ls → AreSoundMaps (filter test ls)

-- sound leases are sound with one more that overlaps none of them, where its key or room is there
abbrev pub MapsAreSoundWithOneMore : Type 0
MapsAreSoundWithOneMore = (l : MapLease) (ls : List MapLease) → AreSoundMaps ls → IsMapLease l
    → list_any (overlaps l) ls ≡ false
    → (map_with_key (first_endpoint l) ls ≡ None → length ls < MOST_LEASES)
    → AreSoundMaps (with_map l ls)
