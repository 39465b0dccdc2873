-- The list of the least moments of blocks, of the tree over them.
use Rattle.std.proofs.Common.{◌≡◌, ℕ, zero, suc, ◌+◌, ◌-◌, ◌*◌, ◌%◌, ◌^◌, ◌<◌, ◌≤◌, List, length, replicate, min, slice_set, refl, sym, ap, subst, ◌∙◌, arith, inl, inr}
use Rattle.std.proofs.Math.Nat.{min-eq_left, pow-suc}
use Rattle.std.proofs.lemmas.Nat.{pow_below, shl_whole}
use Rattle.std.proofs.lemmas.List.{length-set, length-drop, length-replicate, get_or-drop, get_or-replicate, get_or-set_same, get_or-set_other, ext_get_or}
use Rattle.expiry_wheel.specs.declared.TheConstants.{NEVER}
use Rattle.expiry_wheel.specs.Moments.{kept_at, IsFirstIn, IsNextIn}
use Rattle.expiry_wheel.specs.Blocks.{row, IsInRow, IsFirstBelow, AreNodes, leasts_in}
use Rattle.expiry_wheel.proofs.Maps.{same_or_not, below_or_not}
use Rattle.expiry_wheel.proofs.Walks.{root_clear, root_least}

-- how many blocks there are
pub row_power : (n : ℕ) → row n ≡ 2 ^ n
row_power zero = refl
row_power (suc n) = let double : 2 ^ suc n ≡ 2 ^ n * 2 = pow-suc 2 n in omega (arith, double, row_power n)

power_levels : (n k : ℕ) → 2 ^ n ≡ 2 ^ k → n ≡ k
power_levels n k same = elim (below_or_not n k) [
  | inl less ↦ absurd (omega (arith, same, pow_below n k less))
  | inr on ↦ elim (below_or_not k n) [
    | inl more ↦ absurd (omega (arith, same, pow_below k n more))
    | inr most ↦ omega (arith, on, most)
  ]
]

-- twice as many nodes
pub nodes_made : (n : ℕ) → n ≤ 14 → (2 * 2 ^ n) % 2 ^ 64 ≡ 2 * row n
nodes_made n few = shl_whole 2 2 n 64 (omega arith) (omega (arith, few)) ∙ ap (λ k. 2 * k) (sym (row_power n))

-- where each moment and each node is NEVER
pub never_both : min NEVER NEVER ≡ NEVER
never_both = let same : NEVER ≤ NEVER = omega arith in min-eq_left same

module _ (n : ℕ) (nodes : List ℕ) (few : n ≤ 14) (places : length nodes ≡ 2 * row n) (never : (i : ℕ) → kept_at nodes i ≡ NEVER) where
  pub nodes_blank : AreNodes n nodes
  nodes_blank = record {
    few = few;
    places = places;
    tree = λ i positive within. never i ∙ sym (ap (λ a. min a (kept_at nodes (2 * i + 1))) (never (2 * i)) ∙ ap (min NEVER) (never (2 * i + 1)) ∙ never_both);
  }

  pub leasts_blank : (all : ℕ) → all ≡ row n → leasts_in n nodes ≡ replicate all NEVER
  leasts_blank all is =
      let long : length (leasts_in n nodes) ≡ all = length-drop (row n) nodes ∙ omega (arith, places, is) in
      ext_get_or NEVER _ _ (long ∙ sym (length-replicate all NEVER))
      (λ i within. get_or-drop (row n) nodes i NEVER ∙ never (row n + i) ∙ sym (get_or-replicate all i NEVER NEVER (omega (arith, within, long))))

module _ (n : ℕ) (nodes : List ℕ) (are : AreNodes n nodes) where
  -- half of the nodes
  pub leasts_all : length (leasts_in n nodes) ≡ row n
  leasts_all = length-drop (row n) nodes ∙ omega (arith, are.places)

  pub levels_told : (k : ℕ) → length (leasts_in n nodes) ≡ 2 ^ k → n ≡ k
  levels_told k is = power_levels n k (sym (row_power n) ∙ sym leasts_all ∙ is)

  pub least_node : (block : ℕ) → kept_at (leasts_in n nodes) block ≡ kept_at nodes (row n + block)
  least_node block = get_or-drop (row n) nodes block NEVER

  node_least : (leaf : ℕ) → row n ≤ leaf → kept_at (leasts_in n nodes) (leaf - row n) ≡ kept_at nodes leaf
  node_least leaf low = let place : row n + (leaf - row n) ≡ leaf = omega (arith, low) in least_node (leaf - row n) ∙ ap (kept_at nodes) place

  -- the node of a block is written
  pub leasts_set : (new : List ℕ) (leaf block v : ℕ) → AreNodes n new → leaf ≡ row n + block → block < row n → kept_at new leaf ≡ v → ((j : ℕ) → row n ≤ j → (j ≡ leaf → ⊥) → kept_at new j ≡ kept_at nodes j) → leasts_in n new ≡ slice_set (leasts_in n nodes) block v
  leasts_set new leaf block v kept at within own others =
      let old = leasts_in n nodes in
      let long : length (leasts_in n new) ≡ row n = length-drop (row n) new ∙ omega (arith, kept.places) in
      ext_get_or NEVER _ _ (long ∙ sym (length-set old block v ∙ leasts_all))
      (λ i low. get_or-drop (row n) new i NEVER ∙ elim (same_or_not i block) [
        | inl e ↦
            let here : row n + i ≡ leaf = omega (arith, at, e) in
            ap (kept_at new) here ∙ own ∙ sym (ap (kept_at (slice_set old block v)) e ∙ get_or-set_same old block v NEVER (omega (arith, leasts_all, within)))
        | inr ne ↦ others (row n + i) (omega arith) (λ e. ne (omega (arith, e, at))) ∙ sym (get_or-set_other old block i v NEVER ne ∙ least_node i)
      ])

  module _ (m : ℕ) where
    -- the node of a block is found, or none
    pub leasts_first : (from leaf : ℕ) → row n ≤ leaf → IsFirstIn nodes (row n + from) m leaf → IsFirstIn (leasts_in n nodes) from m (leaf - row n)
    leasts_first from leaf low first = record {
      from_on = omega (arith, first.from_on);
      due = subst (λ v. v ≤ m) (sym (node_least leaf low)) first.due;
      first = λ j after before. subst (λ v. m < v) (sym (least_node j)) (first.first (row n + j) (omega (arith, after)) (omega (arith, before)));
    }

    pub leasts_none : (from : ℕ) → ((leaf : ℕ) → row n + from ≤ leaf → leaf < 2 * row n → m < kept_at nodes leaf) → (block : ℕ) → from ≤ block → block < length (leasts_in n nodes) → m < kept_at (leasts_in n nodes) block
    leasts_none from none block after within = subst (λ v. m < v) (sym (least_node block)) (none (row n + block) (omega (arith, after)) (omega (arith, within, leasts_all)))

    -- it is found from the root
    pub root_first : (leaf : ℕ) → IsFirstBelow n nodes m n 1 leaf → IsFirstIn (leasts_in n nodes) 0 m (leaf - row n)
    root_first leaf first = leasts_first 0 leaf first.is_block (record {
      from_on = omega (arith, first.is_block);
      due = first.due;
      first = λ j after before. first.clear 0 (root_clear n nodes m) j (omega arith) (omega (arith, after)) (omega (arith, before, first.within)) before;
    })

    pub root_none : m < kept_at nodes 1 → (block : ℕ) → block < length (leasts_in n nodes) → m < kept_at (leasts_in n nodes) block
    root_none later block within = leasts_none 0 (λ leaf low high. let is : IsInRow n leaf = (omega (arith, low), high) in omega (arith, later, root_least n nodes are.tree leaf is)) block (omega arith) within

  pub root_next : (m least leaf : ℕ) → least ≡ kept_at nodes 1 → least ≤ m → IsFirstBelow n nodes least n 1 leaf → IsNextIn (leasts_in n nodes) m (leaf - row n)
  root_next m least leaf is due first = record {
    moment = least;
    due = due;
    least = λ block within.
        let there : IsInRow n (row n + block) = (omega arith, omega (arith, within, leasts_all)) in
        omega (arith, is, least_node block, root_least n nodes are.tree (row n + block) there);
    first = root_first least leaf first;
  }

  -- with the least moment of all
  pub root_own : (least leaf : ℕ) → least ≡ kept_at nodes 1 → IsFirstBelow n nodes least n 1 leaf → least ≡ kept_at (leasts_in n nodes) (leaf - row n)
  root_own least leaf is first =
      let there : IsInRow n leaf = (first.is_block, first.within) in
      omega (arith, is, node_least leaf first.is_block, first.due, root_least n nodes are.tree leaf there)

  pub leaf_within : (leaf : ℕ) → row n ≤ leaf → leaf < 2 * row n → leaf - row n < length (leasts_in n nodes)
  leaf_within leaf low high = omega (arith, leasts_all, low, high)
