-- How slots and keys lead to cells (our own).
use Rattle.std.specs.Prelude.{◌≡◌, ℕ, zero, suc, ◌+◌, ◌<◌, ◌≤◌, Bool, true, false, List, [], ◌∷◌, ◌++◌, length, take, slice_get, slice_index, slice_set, Some}
use Rattle.std.specs.List.{AllByRecursion}
use Rattle.lane_index.specs.declared.links.TheConstants.{PORT_SLOTS, CELLS}
use Rattle.lane_index.specs.declared.keys.TheConstants.{BUCKETS}
use Rattle.lane_index.specs.declared.cells.Cell.{Cell}
use Rattle.lane_index.specs.Keys.{is_keyed}
use Rattle.lane_index.specs.Slots.{takes, stands_in, HasSlots}

-- A cell is told by its place and 1 more, none by 0. The number n is 1 more than the place of the
-- last one that passes, 0 where none does.
pub record TellsLast {X : Type 0} (p : X → Bool) (xs : List X) (n : ℕ) : Type 0 where
  pub later : (i : ℕ) (x : X) → n ≤ i → slice_get xs i ≡ Some x → p x ≡ false
  pub here : (i : ℕ) → n ≡ suc i → (x : X) × (slice_get xs i ≡ Some x) × (p x ≡ true)

-- chains of cells: for each head its last cell, and for each cell the one before it
pub record ChainLists : Type 0 where
  pub heads : List ℕ
  pub older : List ℕ

-- one more cell, at the end of the chain of this head
abbrev pub joined : ℕ → ChainLists → ChainLists
joined head c = record {
  heads = slice_set c.heads head (length c.older + 1);
  older = c.older ++ slice_index c.heads head ∷ [];
}

-- one more cell, in no chain
abbrev pub skipped : ChainLists → ChainLists
skipped c = record c { older = c.older ++ 0 ∷ [] }

-- the one that the cell `newer` tells is `to`; where that is 0, the last one of the head
abbrev pub relinked : ℕ → ℕ → ℕ → ChainLists → ChainLists
relinked head zero to c = record c { heads = slice_set c.heads head to }
relinked head (suc k) to c = record c { older = slice_set c.older k to }

-- Each head below `count` tells the last cell that passes its test, and each such cell the one
-- before.
pub record AreChained (count : ℕ) (p : ℕ → Cell → Bool) (cells : List Cell) (c : ChainLists)
    : Type 0 where
  pub ends : (head : ℕ) → head < count → TellsLast (p head) cells (slice_index c.heads head)
  pub links : (i : ℕ) (x : Cell) (head : ℕ) → slice_get cells i ≡ Some x → p head x ≡ true →
      TellsLast (p head) (take i cells) (slice_index c.older i)
  pub long : length c.older ≡ length cells
  pub wide : length c.heads ≡ count

-- what leads to cells: for each slot the last MAP lease that took it, the chains of keys, and those
-- of the PEER leases that stand in a slot
pub record LinkLists : Type 0 where
  pub maps : List ℕ
  pub keys : ChainLists
  pub peers : ChainLists

abbrev pub AreTaken : List Cell → List ℕ → Type 0
AreTaken cells maps =
    (slot : ℕ) → slot < PORT_SLOTS → TellsLast (takes slot) cells (slice_index maps slot)

pub record AreLinks (cells : List Cell) (l : LinkLists) : Type 0 where
  pub taken : AreTaken cells l.maps
  pub keyed : AreChained BUCKETS is_keyed cells l.keys
  pub standing : AreChained PORT_SLOTS stands_in cells l.peers

-- the cells are few, each of a lease whose ports are ports, and the links lead to them
pub record IsIndex (cells : List Cell) (l : LinkLists) : Type 0 where
  pub links : AreLinks cells l
  pub placed : AllByRecursion HasSlots cells
  pub few : length cells ≤ CELLS
