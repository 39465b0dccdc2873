-- The nodes above the flags: what each keeps of its block (our own; for proofs alone).
use Rattle.std.specs.Prelude.{false, Bool, true, ℕ, ◌+◌, ◌-◌, ◌%◌, ◌^◌, min, max, ◌&&◌, ◌==◌, if◌then◌else◌, zero, suc, Option, Some, None, ◌*◌, List, slice_index_or, ◌≡◌, ◌<◌, ◌≤◌, length}
use Rattle.port_runs.specs.declared.node.Node.{Node}
use Rattle.port_runs.specs.Flags.{IsSetBetween}
use Rattle.port_runs.specs.Ports.{HasParity}
use Rattle.port_runs.specs.declared.flags.TheConstants.{FLAGS}
use Rattle.port_runs.specs.declared.words.TheConstants.{WORDS}
use Rattle.port_runs.specs.declared.tree.TheConstants.{NODES, LEVELS}

-- p flags are set from the block's first on, and not one more
pub record IsPrefix (flags : List Bool) (a b p : ℕ) : Type 0 where
  pub within : a + p ≤ b
  pub set : IsSetBetween flags a (a + p)
  pub ends : (i : ℕ) → i ≡ a + p → i < b → slice_index_or flags i false ≡ false

-- q flags are set up to the block's last, and not one more
pub record IsSuffix (flags : List Bool) (a b q : ℕ) : Type 0 where
  pub within : a + q ≤ b
  pub set : (i : ℕ) → b ≤ i + q → i < b → slice_index_or flags i false ≡ true
  pub ends : (i : ℕ) → i + q + 1 ≡ b → a ≤ i → slice_index_or flags i false ≡ false

-- a run of n flags in the block whose start has this remainder by 2
pub record RunIn (flags : List Bool) (a b remainder n : ℕ) : Type 0 where
  pub start : ℕ
  pub from : a ≤ start
  pub to : start + n ≤ b
  pub has : start % 2 ≡ remainder
  pub set : IsSetBetween flags start (start + n)

-- n is the longest such run
pub record IsLongest (flags : List Bool) (a b remainder n : ℕ) : Type 0 where
  pub most :
      (s k : ℕ) → s % 2 ≡ remainder → a ≤ s → s + k ≤ b → IsSetBetween flags s (s + k) → k ≤ n
  pub met : 1 ≤ n → RunIn flags a b remainder n

-- what a node tells of the block from a up to b
pub record IsSummary (flags : List Bool) (a b : ℕ) (node : Node) : Type 0 where
  pub prefix : IsPrefix flags a b node.prefix
  pub suffix : IsSuffix flags a b node.suffix
  pub even : IsLongest flags a b 0 node.even
  pub odd : IsLongest flags a b 1 node.odd
  pub filled : node.full ≡ true → (a + node.prefix ≡ b) × (a + node.suffix ≡ b)
  pub open_ended : node.full ≡ false → (a + node.prefix < b) × (a + node.suffix < b)

-- the node of a block with no flag set
unfoldable pub empty_node : Node
empty_node = record { prefix = 0; suffix = 0; even = 0; odd = 0; full = false }

-- as a program of 16 bits adds, which stops at the greatest number
abbrev pub add_up : ℕ → ℕ → ℕ
add_up m n = min (m + n) (2 ^ 16 - 1)

-- a block's run at an end, with the flags beside it where the block is full
abbrev pub extend : Bool → ℕ → ℕ → ℕ
extend full own next = if full then add_up own next else own

-- the longest run from the left block into the right one that begins at a place of this parity
abbrev pub crossing : Bool → Node → Node → ℕ
crossing even left right =
    if left.suffix % 2 == 0
    then (if even then add_up left.suffix right.prefix else add_up left.suffix right.prefix - 1)
    else (if even then add_up left.suffix right.prefix - 1 else add_up left.suffix right.prefix)

-- the node of two blocks side by side
unfoldable pub join : Node → Node → Node
join left right =
    record {
      prefix = extend left.full left.prefix right.prefix;
      suffix = extend right.full right.suffix left.suffix;
      even = max (max left.even right.even) (crossing true left right);
      odd = max (max left.odd right.odd) (crossing false left right);
      full = left.full && right.full;
    }

-- the longest run that begins with the remainder by 2 that is asked
unfoldable pub longest : Option ℕ → Node → ℕ
longest None node = max node.even node.odd
longest (Some zero) node = node.even
longest (Some (suc zero)) node = node.odd
longest (Some (suc (suc _))) node = 0

-- the node at a place
abbrev pub node_at : List Node → ℕ → Node
node_at nodes place = slice_index_or nodes place empty_node

-- the leaf of a word tells of its 64 flags
abbrev pub IsLeaf : List Bool → List Node → ℕ → Type 0
IsLeaf flags nodes index =
    IsSummary flags (64 * index) (64 * index + 64) (node_at nodes (WORDS + index))

-- each leaf tells of its flags
pub record AreLeaves (flags : List Bool) (nodes : List Node) : Type 0 where
  pub each : (index : ℕ) → index < WORDS → IsLeaf flags nodes index

-- each leaf tells of its flags, but for those of the words from low to high
pub record AreLeavesBut (low high : ℕ) (flags : List Bool) (nodes : List Node) : Type 0 where
  pub below : (index : ℕ) → index < low → index < WORDS → IsLeaf flags nodes index
  pub above : (index : ℕ) → high < index → index < WORDS → IsLeaf flags nodes index

-- the leaves are as before
abbrev pub HaveSameLeaves : List Node → List Node → Type 0
HaveSameLeaves old new = (place : ℕ) → WORDS ≤ place → node_at new place ≡ node_at old place

-- the node at a place is that of its children
abbrev pub IsJoined : List Node → ℕ → Type 0
IsJoined nodes place =
    node_at nodes place ≡ join (node_at nodes (2 * place)) (node_at nodes (2 * place + 1))

-- each node above the leaves is that of its children
pub record AreJoined (nodes : List Node) : Type 0 where
  pub all : length nodes ≡ NODES
  pub each : (place : ℕ) → 1 ≤ place → place < WORDS → IsJoined nodes place

-- a flag for each number of 16 bits, and the nodes above them
pub record IsTreeOf (flags : List Bool) (nodes : List Node) : Type 0 where
  pub whole : length flags ≡ FLAGS
  pub leaves : AreLeaves flags nodes
  pub joined : AreJoined nodes

-- each node above the leaves is that of its children, but for the nodes from low to high
pub record AreJoinedBut (low high : ℕ) (nodes : List Node) : Type 0 where
  pub all : length nodes ≡ NODES
  pub below : (place : ℕ) → 1 ≤ place → place < low → place < WORDS → IsJoined nodes place
  pub above : (place : ℕ) → high < place → place < WORDS → IsJoined nodes place

-- start is the first place from begins on with the remainder by 2 that is asked, and n places from
-- it on lie before ends
pub record IsFirstOver (begins ends n : ℕ) (parity : Option ℕ) (start : ℕ) : Type 0 where
  pub remainder : HasParity parity start
  pub from : begins ≤ start
  pub to : start + n ≤ ends
  pub least : (other : ℕ) → HasParity parity other → begins ≤ other → start ≤ other

-- what a way down costs: the root, then two nodes on each of some levels, and behind the last a word
pub record IsCostOfWay (old new : ℕ) : Type 0 where
  pub levels : ℕ
  pub words : ℕ
  pub is : new ≡ old + 1 + 2 * levels + words
  pub some : 1 ≤ levels
  pub few : levels ≤ LEVELS
  pub one : words ≤ 1
  pub last : 1 ≤ words → levels ≡ LEVELS
