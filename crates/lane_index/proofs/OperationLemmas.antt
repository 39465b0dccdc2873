-- What operations do to copies.
use Rattle.std.proofs.Common.{◌≡◌, ℕ, ◌<◌, true, nat_lt, List, length, refl, arith}
use Rattle.std.proofs.lemmas.Bool.Decides.{nat_tests}
use Rattle.pcp_base.specs.declared.records.Change.{Change}
use Rattle.pcp_base.specs.declared.records.Change.TheVariants.{Start, Map, Peer, DropMap, DropPeer, Lose, Mark, Rest, Renumber}
use Rattle.lane_index.specs.declared.links.TheConstants.{CELLS}
use Rattle.lane_index.specs.declared.cells.Cell.{Cell}
use Rattle.lane_index.specs.Applying.{ChangeHasSlots, has_slots, with_room, without_old, fitted, applied, HasCell}

pub placed_of : (c : Change) → has_slots c ≡ true → ChangeHasSlots c
placed_of (Map l) is = grind (arith, nat_tests)
placed_of (Peer l) is = tt
placed_of Start is = tt
placed_of Lose is = tt
placed_of (DropMap e) is = tt
placed_of (DropPeer e r p) is = tt
placed_of Mark is = tt
placed_of (Rest e p n) is = tt
placed_of (Renumber a) is = tt

pub is_placed_of : (c : Change) → ChangeHasSlots c → has_slots c ≡ true
is_placed_of (Map l) is = grind (arith, nat_tests)
is_placed_of (Peer l) is = refl
is_placed_of Start is = refl
is_placed_of Lose is = refl
is_placed_of (DropMap e) is = refl
is_placed_of (DropPeer e r p) is = refl
is_placed_of Mark is = refl
is_placed_of (Rest e p n) is = refl
is_placed_of (Renumber a) is = refl

has_room : (cells : List Cell) → length cells < CELLS → nat_lt (length cells) CELLS ≡ true
has_room cells less = grind (arith, nat_tests)

-- where there is a cell, the record is taken in whole
pub fits_whole : (m : ℕ) (c : Change) (cells : List Cell) → HasCell (record { moment = m; change = c }) cells
    → fitted (record { moment = m; change = c }) cells ≡ applied (record { moment = m; change = c }) cells
fits_whole m (Map l) cells room = rw (has_room (with_room m (without_old (Map l) cells)) room) refl
fits_whole m (Peer l) cells room = rw (has_room (with_room m (without_old (Peer l) cells)) room) refl
fits_whole m Start cells room = refl
fits_whole m Lose cells room = refl
fits_whole m (DropMap e) cells room = refl
fits_whole m (DropPeer e r p) cells room = refl
fits_whole m Mark cells room = refl
fits_whole m (Rest e p n) cells room = refl
fits_whole m (Renumber a) cells room = refl
