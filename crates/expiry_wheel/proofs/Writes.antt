-- What a write to a block's node, and to those above it, leaves of a tree.
use Rattle.std.proofs.Common.{◌≡◌, ◌≢◌, ℕ, zero, suc, ◌+◌, ◌-◌, ◌*◌, ◌/◌, ◌%◌, ◌==◌, ◌<◌, ◌≤◌, Bool, true, false, cond, List, length, min, slice_set, refl, sym, ap, subst, ◌∙◌, arith, inl, inr}
use Rattle.std.proofs.Math.Nat.{min_comm}
use Rattle.std.proofs.Math.ListN.{length-set}
use Rattle.std.proofs.lemmas.List.{get_or-set_same, get_or-set_other}
use Rattle.std.proofs.lemmas.Grind.{common_steps}
use Rattle.expiry_wheel.specs.declared.TheConstants.{NEVER}
use Rattle.expiry_wheel.specs.Moments.{kept_at}
use Rattle.expiry_wheel.specs.Blocks.{above, row, IsInRow, IsParent, IsTree, AreNodes}
use Rattle.expiry_wheel.proofs.Maps.{same_or_not}
use Rattle.expiry_wheel.proofs.Walks.{above_in_row, root_above, some_in_row}

-- a parent stays one where neither it nor a child is written
parent_apart : (nodes : List ℕ) (i k v : ℕ) → k ≢ i → 2 * k ≢ i → 2 * k + 1 ≢ i → IsParent nodes k → IsParent (slice_set nodes i v) k
parent_apart nodes i k v self left right parent =
    get_or-set_other nodes i k v NEVER self ∙ parent
    ∙ sym (ap (λ (a : ℕ). min a (kept_at (slice_set nodes i v) (2 * k + 1))) (get_or-set_other nodes i (2 * k) v NEVER left)
    ∙ ap (min (kept_at nodes (2 * k))) (get_or-set_other nodes i (2 * k + 1) v NEVER right))

-- a node is a parent where it is written so
parent_written : (nodes : List ℕ) (i v : ℕ) → 0 < i → i < length nodes → v ≡ min (kept_at nodes (2 * i)) (kept_at nodes (2 * i + 1)) → IsParent (slice_set nodes i v) i
parent_written nodes i v positive within is =
    get_or-set_same nodes i v NEVER within ∙ is
    ∙ sym (ap (λ (a : ℕ). min a (kept_at (slice_set nodes i v) (2 * i + 1))) (get_or-set_other nodes i (2 * i) v NEVER (λ e. omega (arith, e, positive)))
    ∙ ap (min (kept_at nodes (2 * i))) (get_or-set_other nodes i (2 * i + 1) v NEVER (λ e. omega (arith, e, positive))))

-- each node is a parent, but for one
abbrev pub ParentsBut : ℕ → List ℕ → ℕ → Type 0
ParentsBut n nodes j = (k : ℕ) → 0 < k → k < row n → k ≢ j → IsParent nodes k

-- a block's node is written
parents_of_leaf : (n : ℕ) (nodes : List ℕ) (leaf v : ℕ) → row n ≤ leaf → IsTree n nodes → ParentsBut n (slice_set nodes leaf v) (leaf / 2)
parents_of_leaf n nodes leaf v low tree k positive within apart =
    parent_apart nodes leaf k v (λ e. omega (arith, e, low, within)) (λ e. apart (omega (arith, e))) (λ e. apart (omega (arith, e))) (tree k positive within)

-- the one node is written, and then it is the turn of the next
parents_above : (n : ℕ) (nodes : List ℕ) (j v : ℕ) → 0 < j → j < length nodes → v ≡ min (kept_at nodes (2 * j)) (kept_at nodes (2 * j + 1)) → ParentsBut n nodes j → ParentsBut n (slice_set nodes j v) (j / 2)
parents_above n nodes j v positive within is parents k k_positive k_within apart = elim (same_or_not k j) [
  | inl e ↦ subst (IsParent (slice_set nodes j v)) (sym e) (parent_written nodes j v positive within is)
  | inr ne ↦ parent_apart nodes j k v ne (λ e. apart (omega (arith, e))) (λ e. apart (omega (arith, e))) (parents k k_positive k_within ne)
]

-- a node and the one beside it are the children of their parent
both_least : (nodes : List ℕ) (i : ℕ) → min (kept_at nodes i) (kept_at nodes (cond (i % 2 == 0) (i + 1) (i - 1))) ≡ min (kept_at nodes (2 * (i / 2))) (kept_at nodes (2 * (i / 2) + 1))
both_least nodes i =
    let least = min (kept_at nodes (2 * (i / 2))) (kept_at nodes (2 * (i / 2) + 1)) in
    let is : Bool → Type 0 = λ v. min (kept_at nodes i) (kept_at nodes (cond v (i + 1) (i - 1))) ≡ least in
    let at : (v : Bool) → (i % 2 == 0) ≡ v → is v = λ v. elim v as (λ v. (i % 2 == 0) ≡ v → is v) [
      | true ↦ λ e.
          let even : i ≡ 2 * (i / 2) = grind (arith, common_steps) in
          ap (λ n. min (kept_at nodes n) (kept_at nodes (n + 1))) even
      | false ↦ λ e.
          let odd : i ≡ 2 * (i / 2) + 1 = grind (arith, common_steps) in
          let lower : i - 1 ≡ 2 * (i / 2) = omega (arith, odd) in
          min_comm (kept_at nodes i) (kept_at nodes (i - 1)) ∙ ap (λ n. min (kept_at nodes n) (kept_at nodes i)) lower ∙ ap (λ n. min (kept_at nodes (2 * (i / 2))) (kept_at nodes n)) odd
    ] in at (i % 2 == 0) refl

-- the nodes below this one are written, and its parent is to be next
pub record IsWriting (n : ℕ) (old nodes : List ℕ) (leaf least level i value : ℕ) : Type 0 where
  pub places : length nodes ≡ 2 * row n
  pub is_above : i ≡ above level leaf
  pub kept : value ≡ kept_at nodes i
  pub parents : ParentsBut n nodes (i / 2)
  pub own : kept_at nodes leaf ≡ least
  pub others : (j : ℕ) → row n ≤ j → (j ≡ leaf → ⊥) → kept_at nodes j ≡ kept_at old j

above_most : (k i : ℕ) → above k i ≤ i
above_most zero i = omega arith
above_most (suc k) i = omega (arith, above_most k i)

one_more : (k : ℕ) → suc k ≡ k + 1
one_more k = omega arith

module _ (n : ℕ) (old : List ℕ) (leaf least : ℕ) (is_leaf : IsInRow n leaf) where
  pub leaf_written : AreNodes n old → IsWriting n old (slice_set old leaf least) leaf least 0 leaf least
  leaf_written are =
      let within : leaf < length old = omega (arith, are.places, is_leaf.1) in
      record {
        places = length-set old leaf least ∙ are.places;
        is_above = refl;
        kept = sym (get_or-set_same old leaf least NEVER within);
        parents = parents_of_leaf n old leaf least is_leaf.0 are.tree;
        own = get_or-set_same old leaf least NEVER within;
        others = λ j on ne. get_or-set_other old leaf j least NEVER ne;
      }

  module _ (nodes : List ℕ) (level i kept : ℕ) (writing : IsWriting n old nodes leaf least level i kept) where
    -- a node that is written isn't the root
    pub written_bounds : level < n → (1 < i) × (i < 2 * row n)
    written_bounds few =
        let d : ℕ = n - suc level in
        let in_row = above_in_row level (suc d) n leaf (omega (arith, few)) is_leaf in
        (omega (arith, writing.is_above, some_in_row d, in_row.0), omega (arith, writing.is_above, above_most level leaf, is_leaf.1))

    -- what the parent is to keep
    pub least_above : (other : ℕ) → other ≡ kept_at nodes (cond (i % 2 == 0) (i + 1) (i - 1)) → min kept other ≡ min (kept_at nodes (2 * (i / 2))) (kept_at nodes (2 * (i / 2) + 1))
    least_above other is = ap (min kept) is ∙ ap (λ a. min a (kept_at nodes (cond (i % 2 == 0) (i + 1) (i - 1)))) writing.kept ∙ both_least nodes i

    pub node_written : (other : ℕ) → level < n → other ≡ kept_at nodes (cond (i % 2 == 0) (i + 1) (i - 1)) → IsWriting n old (slice_set nodes (i / 2) (min kept other)) leaf least (level + 1) (i / 2) (min kept other)
    node_written other few is =
        let bounds = written_bounds few in
        let within : i / 2 < length nodes = omega (arith, writing.places, bounds.1) in
        let inner : i / 2 < row n = omega (arith, bounds.1) in
        let up : i / 2 ≡ above (level + 1) leaf = ap (λ a. a / 2) writing.is_above ∙ ap (λ k. above k leaf) (one_more level) in
        record {
          places = length-set nodes (i / 2) (min kept other) ∙ writing.places;
          is_above = up;
          kept = sym (get_or-set_same nodes (i / 2) (min kept other) NEVER within);
          parents = parents_above n nodes (i / 2) (min kept other) (omega (arith, bounds.0)) within (least_above other is) writing.parents;
          own = get_or-set_other nodes (i / 2) leaf (min kept other) NEVER (λ e. omega (arith, e, inner, is_leaf.0)) ∙ writing.own;
          others = λ j on ne. get_or-set_other nodes (i / 2) j (min kept other) NEVER (λ e. omega (arith, e, inner, on)) ∙ writing.others j on ne;
        }

    -- where the parent stays as it was, all are right
    pub tree_stays : (other stood after : ℕ) → other ≡ kept_at nodes (cond (i % 2 == 0) (i + 1) (i - 1)) → stood ≡ kept_at nodes (i / 2) → stood ≡ after → after ≡ min kept other → n ≤ 14 → AreNodes n nodes
    tree_stays other stood after is there same joined few = record {
      few = few;
      places = writing.places;
      tree = λ k positive within. elim (same_or_not k (i / 2)) [
        | inl e ↦ subst (IsParent nodes) (sym e) (sym there ∙ same ∙ joined ∙ least_above other is)
        | inr ne ↦ writing.parents k positive within ne
      ];
    }

  -- and at the root too
  pub tree_ends : (nodes : List ℕ) (i kept : ℕ) → IsWriting n old nodes leaf least n i kept → n ≤ 14 → AreNodes n nodes
  tree_ends nodes i kept writing few = record {
    few = few;
    places = writing.places;
    tree = λ k positive within. writing.parents k positive within (λ e. omega (arith, e, positive, writing.is_above, root_above n leaf is_leaf));
  }
