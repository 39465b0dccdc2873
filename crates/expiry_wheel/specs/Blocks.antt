-- Least moments of blocks, and a tree over them (our own; for proofs alone).
use Rattle.std.specs.Prelude.{ℕ, zero, suc, List, ◌≡◌, min, ◌+◌, ◌*◌, ◌/◌, ◌<◌, ◌≤◌, length, drop}
use Rattle.expiry_wheel.specs.declared.TheConstants.{NEVER, IDS}
use Rattle.expiry_wheel.specs.declared.leasts.TheConstants.{MOST_LEVELS}
use Rattle.expiry_wheel.specs.declared.blocks.TheConstants.{BLOCKS}
use Rattle.expiry_wheel.specs.Moments.{kept_at}

-- the least that a function has at n places from one on
unfoldable pub least_at : (ℕ → ℕ) → ℕ → ℕ → ℕ
least_at f at zero = NEVER
least_at f at (suc n) = min (least_at f at n) (f (at + n))

-- n blocks of 8 places, and the least that a function has in each
pub record AreLeasts (n : ℕ) (f : ℕ → ℕ) (leasts : List ℕ) : Type 0 where
  pub all : length leasts ≡ n
  pub blocks : (b : ℕ) → b < n → kept_at leasts b ≡ least_at f (8 * b) 8

-- a moment for each id, and the least one of each block of ids
pub record IsWheel (moments leasts : List ℕ) : Type 0 where
  pub ids : length moments ≡ IDS
  pub blocks : AreLeasts BLOCKS (kept_at moments) leasts

-- of the nodes of a tree the root is at 1, the children of that at i are at 2 * i and 2 * i + 1, and
-- the second half are the blocks

-- how many nodes there are as many levels below the root; the first of them is at this place
abbrev pub row : ℕ → ℕ
row zero = 1
row (suc d) = 2 * row d

-- the node is one of them
abbrev pub IsInRow : ℕ → ℕ → Type 0
IsInRow d i = (row d ≤ i) × (i < 2 * row d)

-- the node at i is the lesser of its children
abbrev pub IsParent : List ℕ → ℕ → Type 0
IsParent nodes i = kept_at nodes i ≡ min (kept_at nodes (2 * i)) (kept_at nodes (2 * i + 1))

-- each node is, but for the blocks, which are as many levels below the root
abbrev pub IsTree : ℕ → List ℕ → Type 0
IsTree n nodes = (i : ℕ) → 0 < i → i < row n → IsParent nodes i

-- the nodes of a tree with as many levels
pub record AreNodes (n : ℕ) (nodes : List ℕ) : Type 0 where
  pub few : n ≤ MOST_LEVELS
  pub places : length nodes ≡ 2 * row n
  pub tree : IsTree n nodes

-- the moments of the blocks
abbrev pub leasts_in : ℕ → List ℕ → List ℕ
leasts_in n nodes = drop (row n) nodes

-- the node as many levels above another
abbrev pub above : ℕ → ℕ → ℕ
above zero i = i
above (suc k) i = above k i / 2

-- at each block from one on that is left of those below a node, k levels above the blocks, more
-- than m stands
abbrev pub IsClear : ℕ → List ℕ → ℕ → ℕ → ℕ → ℕ → Type 0
IsClear n nodes m from k node =
    (block : ℕ) → from ≤ block → row n ≤ block → block < 2 * row n → above k block < node →
    m < kept_at nodes block

-- a block below a node, k levels above the blocks: at most m stands there, and more at each other
-- that is below the node and left of it
pub record IsFirstBelow (n : ℕ) (nodes : List ℕ) (m k node block : ℕ) : Type 0 where
  pub is_block : row n ≤ block
  pub within : block < 2 * row n
  pub below : above k block ≡ node
  pub due : kept_at nodes block ≤ m
  pub clear : (from : ℕ) → IsClear n nodes m from k node → IsClear n nodes m from 0 block
