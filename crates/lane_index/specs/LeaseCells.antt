-- Which cells stand for which lease table (our own).
use Rattle.std.specs.Prelude.{◌≡◌, ◌≢◌, ℕ, ◌≤◌, true, List, length, nat_lt}
use Rattle.pcp_base.specs.declared.leases.MapLease.{MapLease}
use Rattle.pcp_base.specs.declared.leases.PeerLease.{PeerLease}
use Rattle.pcp_base.specs.Tables.{Table, EachTwo}
use Rattle.pcp_base.specs.Sound.{Sound}
use Rattle.pcp_base.proofs.Members.{IsIn}
use Rattle.lane_index.specs.declared.links.TheConstants.{CELLS}
use Rattle.lane_index.specs.declared.cells.Cell.{Cell}
use Rattle.lane_index.specs.declared.cells.Cell.TheVariants.{Mapping, Peering}
use Rattle.lane_index.specs.Slots.{map_kept, peer_kept, is_live}
use Rattle.lane_index.specs.Openings.{EachLaterWins}

-- it is what a cell keeps of a lease of the table
abbrev pub IsOf : Table → Cell → Type 0
IsOf t (Mapping k) = (l : MapLease) × IsIn l t.maps × (map_kept l ≡ k)
IsOf t (Peering k) = (l : PeerLease) × IsIn l t.peers × (peer_kept l ≡ k)

-- both live at m, and different
abbrev pub AreTwo : ℕ → Cell → Cell → Type 0
AreTwo m c d = is_live m c ≡ true → is_live m d ≡ true → c ≢ d

-- the cells that are live at m have the leases of the table that are
pub record AreCellsOf (t : Table) (m : ℕ) (cells : List Cell) : Type 0 where
  pub sound : Sound t
  pub shown : (c : Cell) → IsIn c cells → is_live m c ≡ true → IsOf t c
  pub maps : (l : MapLease) → IsIn l t.maps → nat_lt m l.expiry ≡ true →
      IsIn (Mapping (map_kept l)) cells
  pub peers : (l : PeerLease) → IsIn l t.peers → nat_lt m l.expiry ≡ true →
      IsIn (Peering (peer_kept l)) cells
  pub later : EachLaterWins m cells
  pub different : EachTwo (AreTwo m) cells
  pub few : length cells ≤ CELLS
