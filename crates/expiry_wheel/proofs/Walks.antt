-- Ways up and down a tree over blocks.
use Rattle.std.proofs.Common.{◌≡◌, ℕ, zero, suc, ◌+◌, ◌-◌, ◌*◌, ◌/◌, ◌%◌, ◌<◌, ◌≤◌, List, min, refl, sym, ap, subst, ◌∙◌, arith, ◌⊎◌, inl, inr}
use Rattle.std.proofs.Math.Nat.{min-le_left, min-le_right, le-min}
use Rattle.expiry_wheel.specs.Moments.{kept_at, IsFirstIn}
use Rattle.expiry_wheel.specs.Blocks.{above, row, IsInRow, IsParent, IsTree, IsClear, IsFirstBelow}
use Rattle.expiry_wheel.proofs.Maps.{same_or_not, below_or_not}

pub some_in_row : (d : ℕ) → 0 < row d
some_in_row zero = omega arith
some_in_row (suc d) = omega (arith, some_in_row d)

pub row_grows : (k d n : ℕ) → k + d ≡ n → row d ≤ row n
row_grows zero d n at = let same : d ≡ n = omega (arith, at) in subst (λ x. row d ≤ row x) same (omega arith)
row_grows (suc k) d n at = omega (arith, some_in_row d, row_grows k (suc d) n (omega (arith, at)))

-- the node above a block is in its row
pub above_in_row : (k d n i : ℕ) → k + d ≡ n → IsInRow n i → IsInRow d (above k i)
above_in_row zero d n i at in_row = let same : n ≡ d = omega (arith, at) in subst (λ x. IsInRow x i) same in_row
above_in_row (suc k) d n i at in_row = let below = above_in_row k (suc d) n i (omega (arith, at)) in_row in (omega (arith, below.0), omega (arith, below.1))

pub above_ordered : (k i j : ℕ) → i ≤ j → above k i ≤ above k j
above_ordered zero i j h = h
above_ordered (suc k) i j h = omega (arith, above_ordered k i j h)

-- above all blocks is the root
pub root_above : (n block : ℕ) → IsInRow n block → above n block ≡ 1
root_above n block in_row = let top = above_in_row n 0 n block (omega arith) in_row in omega (arith, top.0, top.1)

-- the node beside the left one is in the same row
pub right_in_row : (d node : ℕ) → IsInRow (suc d) node → node % 2 ≡ 0 → IsInRow (suc d) (node + 1)
right_in_row d node in_row even = (omega (arith, in_row.0), omega (arith, in_row.1, even))

-- a step down: to the left child where at most m stands there, else to the right one
abbrev pub IsFirstChild : List ℕ → ℕ → ℕ → ℕ → Type 0
IsFirstChild nodes m node child = ((child ≡ 2 * node) × (kept_at nodes (2 * node) ≤ m)) ⊎ ((child ≡ 2 * node + 1) × (m < kept_at nodes (2 * node)))

right_due : (a b m : ℕ) → min a b ≤ m → m < a → b ≤ m
right_due a b m most later = elim (below_or_not m b) [
  | inl high ↦ let both : m + 1 ≤ min a b = le-min (omega (arith, later)) (omega (arith, high)) in absurd (omega (arith, most, both))
  | inr low ↦ low
]

pub child_due : (nodes : List ℕ) (m node child : ℕ) → IsParent nodes node → kept_at nodes node ≤ m → IsFirstChild nodes m node child → kept_at nodes child ≤ m
child_due nodes m node child parent due first = elim first [
  | inl left ↦ subst (λ c. kept_at nodes c ≤ m) (sym left.0) left.1
  | inr right ↦ subst (λ c. kept_at nodes c ≤ m) (sym right.0) (right_due (kept_at nodes (2 * node)) (kept_at nodes (2 * node + 1)) m (subst (λ v. v ≤ m) parent due) right.1)
]

pub child_above : (nodes : List ℕ) (m node child : ℕ) → IsFirstChild nodes m node child → child / 2 ≡ node
child_above nodes m node child first = elim first [ inl left ↦ omega (arith, left.0) | inr right ↦ omega (arith, right.0) ]

pub child_in_row : (nodes : List ℕ) (m d node child : ℕ) → IsFirstChild nodes m node child → IsInRow d node → IsInRow (suc d) child
child_in_row nodes m d node child first in_row = elim first [
  | inl left ↦ (omega (arith, left.0, in_row.0), omega (arith, left.0, in_row.1))
  | inr right ↦ (omega (arith, right.0, in_row.0), omega (arith, right.0, in_row.1))
]

-- on the way down from a node
pub record IsOnWay (n : ℕ) (nodes : List ℕ) (m levels start left node : ℕ) : Type 0 where
  pub fewer : left ≤ levels
  pub in_row : IsInRow (n - left) node
  pub due : kept_at nodes node ≤ m
  pub below : (block : ℕ) → above left block ≡ node → above levels block ≡ start
  pub clear : (from : ℕ) → IsClear n nodes m from levels start → IsClear n nodes m from left node

-- on the way up from a block: it is below the node, and none behind it that isn't right of the node
-- is due
abbrev pub IsPassed : ℕ → List ℕ → ℕ → ℕ → ℕ → ℕ → Type 0
IsPassed n nodes m leaf k node = (node ≡ above k leaf) × IsClear n nodes m (leaf + 1) k (node + 1)

-- n levels below the root are the blocks
module _ (n : ℕ) where
  -- no row goes on past them
  pub within_row : (k d i : ℕ) → k + d ≡ n → IsInRow d i → (0 < i) × (i < 2 * row n)
  within_row k d i at in_row = let low = row_grows k d n at in (omega (arith, some_in_row d, in_row.0), omega (arith, low, in_row.1))

  -- a node above them
  pub within_inner : (k d i : ℕ) → suc k + d ≡ n → IsInRow d i → i < row n
  within_inner k d i at in_row = omega (arith, row_grows k (suc d) n (omega (arith, at)), in_row.1)

  module _ (nodes : List ℕ) (m : ℕ) where
    pub way_begins : (depth start : ℕ) → depth ≤ n → IsInRow depth start → kept_at nodes start ≤ m → IsOnWay n nodes m (n - depth) start (n - depth) start
    way_begins depth start within in_row due =
        let same : depth ≡ n - (n - depth) = omega (arith, within) in
        record {
          fewer = omega arith;
          in_row = subst (λ x. IsInRow x start) same in_row;
          due = due;
          below = λ block e. e;
          clear = λ from c. c;
        }

    pub way_ends : (levels start node : ℕ) → IsOnWay n nodes m levels start 0 node → IsFirstBelow n nodes m levels start node
    way_ends levels start node way =
        let same : n - 0 ≡ n = omega arith in
        let in_row = subst (λ x. IsInRow x node) same way.in_row in
        record {
          is_block = in_row.0;
          within = in_row.1;
          below = way.below node refl;
          due = way.due;
          clear = way.clear;
        }

    pub passed_none : (leaf : ℕ) → IsPassed n nodes m leaf 0 leaf
    passed_none leaf = (refl, λ block after low high left. absurd (omega (arith, after, left)))

    -- where a node is that is passed
    pub passed_row : (leaf k node : ℕ) → IsInRow n leaf → k < n → IsPassed n nodes m leaf k node → IsInRow (suc (n - suc k)) node
    passed_row leaf k node own few passed = subst (IsInRow (suc (n - suc k))) (sym passed.0) (above_in_row k (suc (n - suc k)) n leaf (omega (arith, few)) own)

    pub passed_within : (leaf k node : ℕ) → IsInRow n leaf → k < n → IsPassed n nodes m leaf k node → node < 2 * row n
    passed_within leaf k node own few passed = (within_row k (suc (n - suc k)) node (omega (arith, few)) (passed_row leaf k node own few passed)).1

    pub right_of_passed : (leaf k node : ℕ) → IsInRow n leaf → k < n → IsPassed n nodes m leaf k node → node % 2 ≡ 0 → IsInRow (n - k) (node + 1)
    right_of_passed leaf k node own few passed even =
        let next : suc (n - suc k) ≡ n - k = omega (arith, few) in
        subst (λ d. IsInRow d (node + 1)) next (right_in_row (n - suc k) node (passed_row leaf k node own few passed) even)

    -- the first block below the one beside it is the next
    pub next_found : (leaf k node block : ℕ) → row n ≤ leaf → IsPassed n nodes m leaf k node → IsFirstBelow n nodes m k (node + 1) block → IsFirstIn nodes (leaf + 1) m block
    next_found leaf k node block on passed first = record {
      from_on = elim (below_or_not leaf block) [
        | inl after ↦ omega (arith, after)
        | inr before ↦ absurd (omega (arith, above_ordered k block leaf before, passed.0, first.below))
      ];
      due = first.due;
      first = λ j after before. first.clear (leaf + 1) passed.1 j after (omega (arith, on, after)) (omega (arith, before, first.within)) before;
    }

    -- at the root all are passed
    pub next_none : (leaf node : ℕ) → IsInRow n leaf → IsPassed n nodes m leaf n node → (block : ℕ) → leaf < block → block < 2 * row n → m < kept_at nodes block
    next_none leaf node own passed block after high =
        let there : IsInRow n block = (omega (arith, own.0, after), high) in
        passed.1 block (omega (arith, after)) there.0 high (omega (arith, root_above n block there, root_above n leaf own, passed.0))

    -- no block is left of those below the root
    pub root_clear : IsClear n nodes m 0 n 1
    root_clear block from low high left = absurd (omega (arith, root_above n block (low, high), left))

  module _ (nodes : List ℕ) (tree : IsTree n nodes) where
    -- a node is no more than a child
    pub parent_least : (i : ℕ) → 1 < i → i < 2 * row n → kept_at nodes (i / 2) ≤ kept_at nodes i
    parent_least i inner within =
        let parent : IsParent nodes (i / 2) = tree (i / 2) (omega (arith, inner)) (omega (arith, within)) in
        elim (same_or_not (2 * (i / 2)) i) [
          | inl e ↦ subst (λ k. kept_at nodes (i / 2) ≤ kept_at nodes k) e (subst (λ v. v ≤ kept_at nodes (2 * (i / 2))) (sym parent) (min-le_left (kept_at nodes (2 * (i / 2))) (kept_at nodes (2 * (i / 2) + 1))))
          | inr ne ↦
              let odd : 2 * (i / 2) + 1 ≡ i = omega (arith, ne) in
              subst (λ k. kept_at nodes (i / 2) ≤ kept_at nodes k) odd (subst (λ v. v ≤ kept_at nodes (2 * (i / 2) + 1)) (sym parent) (min-le_right (kept_at nodes (2 * (i / 2))) (kept_at nodes (2 * (i / 2) + 1))))
        ]

    -- so it is no more than a block below it
    pub above_least : (k d i : ℕ) → k + d ≡ n → IsInRow n i → kept_at nodes (above k i) ≤ kept_at nodes i
    above_least zero d i at in_row = omega arith
    above_least (suc k) d i at in_row =
        let below = above_in_row k (suc d) n i (omega (arith, at)) in_row in
        let bounds = within_row k (suc d) (above k i) (omega (arith, at)) below in
        let up = parent_least (above k i) (omega (arith, some_in_row d, below.0)) bounds.1 in
        omega (arith, up, above_least k (suc d) i (omega (arith, at)) in_row)

    -- the root is no more than each block
    pub root_least : (block : ℕ) → IsInRow n block → kept_at nodes 1 ≤ kept_at nodes block
    root_least block in_row =
        let same : kept_at nodes (above n block) ≡ kept_at nodes 1 = ap (kept_at nodes) (root_above n block in_row) in
        omega (arith, same, above_least n 0 block (omega arith) in_row)

    module _ (m : ℕ) where
      -- where more than m stands at a node, so it does at each block below it
      pub later_below : (k d node block : ℕ) → k + d ≡ n → row n ≤ block → block < 2 * row n → above k block ≡ node → m < kept_at nodes node → m < kept_at nodes block
      later_below k d node block at low high is later =
          let same : kept_at nodes (above k block) ≡ kept_at nodes node = ap (kept_at nodes) is in
          omega (arith, above_least k d block at (low, high), same, later)

      -- what is left of the child is left of the node, or below the left child
      pub child_clear : (k d node child from : ℕ) → k + suc d ≡ n → IsFirstChild nodes m node child → IsClear n nodes m from (suc k) node → IsClear n nodes m from k child
      child_clear k d node child from at first clear block after low high left = elim first [
        | inl l ↦ clear block after low high (omega (arith, left, l.0))
        | inr r ↦ elim (same_or_not (above k block) (2 * node)) [
          | inl e ↦ later_below k (suc d) (2 * node) block at low high e r.1
          | inr ne ↦ clear block after low high (omega (arith, left, r.0, ne))
        ]
      ]

      pub way_goes_on : (levels start k node child : ℕ) → levels ≤ n → IsOnWay n nodes m levels start (suc k) node → IsFirstChild nodes m node child → IsOnWay n nodes m levels start k child
      way_goes_on levels start k node child few way first =
          let d : ℕ = n - suc k in
          let at : suc k + d ≡ n = omega (arith, way.fewer, few) in
          let next : suc d ≡ n - k = omega (arith, way.fewer, few) in
          let up = child_above nodes m node child first in
          let inner = within_inner k d node at way.in_row in
          let bounds = within_row (suc k) d node at way.in_row in
          record {
            fewer = omega (arith, way.fewer);
            in_row = subst (λ x. IsInRow x child) next (child_in_row nodes m d node child first way.in_row);
            due = child_due nodes m node child (tree node bounds.0 inner) way.due first;
            below = λ block e. way.below block (ap (λ i. i / 2) e ∙ up);
            clear = λ from c. child_clear k d node child from (omega (arith, at)) first (way.clear from c);
          }

      pub passed_more : (leaf k d node : ℕ) → k + suc d ≡ n → (node % 2 ≡ 0 → m < kept_at nodes (node + 1)) → IsPassed n nodes m leaf k node → IsPassed n nodes m leaf (suc k) (node / 2)
      passed_more leaf k d node at later passed = (
        ap (λ i. i / 2) passed.0,
        λ block after low high left. elim (below_or_not (above k block) (node + 1)) [
          | inl before ↦ passed.1 block after low high before
          | inr on ↦
              let next : above k block ≡ node + 1 = omega (arith, on, left) in
              let even : node % 2 ≡ 0 = omega (arith, next, left) in
              later_below k (suc d) (node + 1) block at low high next (later even)
        ],
      )
