-- Each node of the tree tells what the runs of its block are.
use Rattle.std.proofs.Common.{◌≡◌, ℕ, zero, suc, ◌+◌, ◌-◌, ◌*◌, ◌%◌, ◌<◌, ◌≤◌, ◌&&◌, max, Bool, true, false, List, Option, Some, None, slice_index_or, refl, sym, subst, arith, inl, inr}
use Rattle.std.proofs.lemmas.Bool.{cases_lt, cases_eq}
use Rattle.std.proofs.lemmas.Bool.Decides.{nat_tests}
use Rattle.std.proofs.Math.Nat.{mul-le-mul_right}
use Rattle.port_runs.specs.declared.node.Node.{Node}
use Rattle.port_runs.specs.Flags.{IsSetBetween}
use Rattle.port_runs.specs.Ports.{HasParity}
use Rattle.port_runs.specs.Nodes.{IsPrefix, IsSuffix, RunIn, IsLongest, IsSummary, empty_node, join, add_up, extend, crossing, longest, node_at, AreLeaves, AreJoined}
use Rattle.port_runs.proofs.Blocks.{prefix_on, prefix_stays, suffix_on, suffix_stays, longest_joined, set_and_not}

-- two blocks side by side
module _ (flags : List Bool) (a m b : ℕ) (left right : Node) (l : IsSummary flags a m left) (r : IsSummary flags m b right) (middle : m % 2 ≡ 0) (few : left.suffix + right.prefix ≤ 65535) where
  prefix_of : (full : Bool) → left.full ≡ full → IsPrefix flags a b (extend full left.prefix right.prefix)
  prefix_of true is =
      let h = l.filled is in
      let sum : add_up left.prefix right.prefix ≡ left.prefix + right.prefix = omega arith in
      rw sum (prefix_on flags a m b left.prefix right.prefix h.0 l.prefix r.prefix)
  prefix_of false is = prefix_stays flags a m b left.prefix (l.open_ended is).0 (omega (arith, r.prefix.within)) l.prefix

  suffix_of : (full : Bool) → right.full ≡ full → IsSuffix flags a b (extend full right.suffix left.suffix)
  suffix_of true is =
      let h = r.filled is in
      let sum : add_up right.suffix left.suffix ≡ right.suffix + left.suffix = omega arith in
      rw sum (suffix_on flags a m b left.suffix right.suffix h.1 l.suffix r.suffix)
  suffix_of false is = suffix_stays flags a m b right.suffix (r.open_ended is).1 (omega (arith, l.prefix.within)) r.suffix

  ordered : (a ≤ m) × (left.suffix ≤ m)
  ordered = (omega (arith, l.prefix.within), omega (arith, l.suffix.within))

  even_of : IsLongest flags a b 0 (max (max left.even right.even) (crossing true left right))
  even_of = elim (cases_eq (left.suffix % 2) 0) [
    | inl is ↦ longest_joined flags a m b 0 left.even right.even left.suffix right.prefix (m - left.suffix) (crossing true left right) ordered.0 l.even r.even l.suffix r.prefix (omega (arith, ordered.1)) (omega arith) (omega (arith, ordered.1)) (grind (arith, nat_tests, ordered.1))
    | inr isnt ↦ longest_joined flags a m b 0 left.even right.even left.suffix right.prefix (m - left.suffix + 1) (crossing true left right) ordered.0 l.even r.even l.suffix r.prefix (omega (arith, ordered.1)) (omega arith) (omega (arith, ordered.1)) (grind (arith, nat_tests, ordered.1))
  ]

  odd_of : IsLongest flags a b 1 (max (max left.odd right.odd) (crossing false left right))
  odd_of = elim (cases_eq (left.suffix % 2) 0) [
    | inl is ↦ longest_joined flags a m b 1 left.odd right.odd left.suffix right.prefix (m - left.suffix + 1) (crossing false left right) ordered.0 l.odd r.odd l.suffix r.prefix (omega (arith, ordered.1)) (omega arith) (omega (arith, ordered.1)) (grind (arith, nat_tests, ordered.1))
    | inr isnt ↦ longest_joined flags a m b 1 left.odd right.odd left.suffix right.prefix (m - left.suffix) (crossing false left right) ordered.0 l.odd r.odd l.suffix r.prefix (omega (arith, ordered.1)) (omega arith) (omega (arith, ordered.1)) (grind (arith, nat_tests, ordered.1))
  ]

  filled_of : (x y : Bool) → left.full ≡ x → right.full ≡ y → (x && y) ≡ true → (a + extend x left.prefix right.prefix ≡ b) × (a + extend y right.suffix left.suffix ≡ b)
  filled_of true true is_left is_right h =
      let hl = l.filled is_left in let hr = r.filled is_right in (omega arith, omega arith)
  filled_of true false is_left is_right h = (cc)
  filled_of false y is_left is_right h = (cc)

  open_of : (x y : Bool) → left.full ≡ x → right.full ≡ y → (x && y) ≡ false → (a + extend x left.prefix right.prefix < b) × (a + extend y right.suffix left.suffix < b)
  open_of true true is_left is_right h = (cc)
  open_of true false is_left is_right h =
      let hl = l.filled is_left in let hr = r.open_ended is_right in (omega arith, omega (arith, l.prefix.within))
  open_of false true is_left is_right h =
      let hl = l.open_ended is_left in let hr = r.filled is_right in (omega (arith, r.prefix.within), omega arith)
  open_of false false is_left is_right h =
      let hl = l.open_ended is_left in let hr = r.open_ended is_right in (omega (arith, r.prefix.within), omega (arith, l.prefix.within))

  pub joined_summary : IsSummary flags a b (join left right)
  unfolding join
  joined_summary = record {
    prefix = prefix_of left.full refl;
    suffix = suffix_of right.full refl;
    even = even_of;
    odd = odd_of;
    filled = filled_of left.full right.full refl refl;
    open_ended = open_of left.full right.full refl refl;
  }

none_longest : (flags : List Bool) (a b r : ℕ) → ((i : ℕ) → slice_index_or flags i false ≡ false) → IsLongest flags a b r 0
none_longest flags a b r clear = record {
  most = λ s k has from to set. elim (cases_lt 0 k) [
    | inl some ↦ absurd (set_and_not flags s (set s (omega arith) (omega arith)) (clear s))
    | inr none ↦ none
  ];
  met = λ some. absurd (omega arith);
}

-- a block with no flag set
pub empty_summary : (flags : List Bool) (a b : ℕ) → a < b → ((i : ℕ) → slice_index_or flags i false ≡ false) → IsSummary flags a b empty_node
unfolding empty_node
empty_summary flags a b some clear = record {
  prefix = record { within = omega arith; set = λ i low high. absurd (omega arith); ends = λ i here small. clear i };
  suffix = record { within = omega arith; set = λ i low high. absurd (omega arith); ends = λ i here large. clear i };
  even = none_longest flags a b 0 clear;
  odd = none_longest flags a b 1 clear;
  filled = λ h. (cc);
  open_ended = λ _. (omega arith, omega arith);
}

-- the longest runs of a block by the remainder that is asked
module _ (flags : List Bool) (a b : ℕ) (node : Node) (h : IsSummary flags a b node) where
  pub longest_most : (parity : Option ℕ) (s k : ℕ) → HasParity parity s → a ≤ s → s + k ≤ b → IsSetBetween flags s (s + k) → k ≤ longest parity node
  unfolding longest
  longest_most None s k even from to set = elim (cases_eq (s % 2) 0) [
    | inl is ↦ omega (arith, h.even.most s k is from to set)
    | inr isnt ↦ omega (arith, h.odd.most s k (omega arith) from to set)
  ]
  longest_most (Some zero) s k even from to set = h.even.most s k even from to set
  longest_most (Some (suc zero)) s k even from to set = h.odd.most s k even from to set
  longest_most (Some (suc (suc r))) s k even from to set = absurd (omega arith)

-- a run of n flags in a block, with the remainder that is asked
pub record RunAsked (flags : List Bool) (a b n : ℕ) (parity : Option ℕ) : Type 0 where
  pub start : ℕ
  pub from : a ≤ start
  pub to : start + n ≤ b
  pub has : HasParity parity start
  pub set : IsSetBetween flags start (start + n)

asked_of_run : (flags : List Bool) (a b r k n : ℕ) (parity : Option ℕ) → ((s : ℕ) → s % 2 ≡ r → HasParity parity s) → n ≤ k → RunIn flags a b r k → RunAsked flags a b n parity
asked_of_run flags a b r k n parity allowed less run = record {
  start = run.start;
  from = run.from;
  to = omega (arith, run.to);
  has = allowed run.start run.has;
  set = λ i low high. run.set i low (omega arith);
}

module _ (flags : List Bool) (a b : ℕ) (node : Node) (h : IsSummary flags a b node) where
  pub longest_met : (parity : Option ℕ) (n : ℕ) → 1 ≤ n → n ≤ longest parity node → RunAsked flags a b n parity
  unfolding longest
  longest_met None n some less = elim (cases_lt node.even n) [
    | inl short ↦ asked_of_run flags a b 1 node.odd n None (λ s e. tt) (omega arith) (h.odd.met (omega arith))
    | inr long ↦ asked_of_run flags a b 0 node.even n None (λ s e. tt) long (h.even.met (omega arith))
  ]
  longest_met (Some zero) n some less = asked_of_run flags a b 0 node.even n (Some 0) (λ s e. e) less (h.even.met (omega arith))
  longest_met (Some (suc zero)) n some less = asked_of_run flags a b 1 node.odd n (Some 1) (λ s e. e) less (h.odd.met (omega arith))
  longest_met (Some (suc (suc r))) n some less = absurd (omega arith)

-- how many flags a block has, so many levels above the words
abbrev pub width : ℕ → ℕ
width zero = 64
width (suc k) = width k * 2

pub width_some : (k : ℕ) → 64 ≤ width k
width_some zero = omega arith
width_some (suc k) = omega (arith, width_some k)

pub width_even : (k : ℕ) → width k % 2 ≡ 0
width_even zero = refl
width_even (suc k) = omega arith

pub left_place : (i half a : ℕ) → i * (half * 2) ≡ 65536 + a → 2 * i * half ≡ 65536 + a
left_place i half a place = omega arith

pub right_place : (i half a : ℕ) → i * (half * 2) ≡ 65536 + a → (2 * i + 1) * half ≡ 65536 + (a + half)
right_place i half a place = omega arith

middle_even : (i half a : ℕ) → i * (half * 2) ≡ 65536 + a → half % 2 ≡ 0 → (a + half) % 2 ≡ 0
middle_even i half a place even = omega arith

pub place_some : (i half a : ℕ) → i * (half * 2) ≡ 65536 + a → 1 ≤ i
place_some zero half a place = absurd (omega arith)
place_some (suc i) half a place = omega arith

pub place_small : (i half a : ℕ) → i * (half * 2) ≡ 65536 + a → a + half * 2 ≤ 65536 → 64 ≤ half → i < 1024
place_small i half a place small some = elim (cases_lt i 1024) [
  | inl h ↦ h
  | inr large ↦ absurd (omega (arith, mul-le-mul_right (half * 2) large))
]

same_end : (a half : ℕ) → a + half + half ≡ a + half * 2
same_end a half = omega arith

module _ (flags : List Bool) (clear : slice_index_or flags 0 false ≡ false) where
  -- no run has all flags
  crossing_fits : (a m b : ℕ) (left right : Node) → b ≤ 65536 → IsSummary flags a m left → IsSummary flags m b right → left.suffix + right.prefix ≤ 65535
  crossing_fits a m b left right small l r = elim (cases_lt 65535 (left.suffix + right.prefix)) [
    | inr fits ↦ fits
    | inl over ↦ elim (cases_lt 0 m) [
      | inl some ↦ absurd (set_and_not flags 0 (l.suffix.set 0 (omega (arith, l.suffix.within, r.prefix.within)) some) clear)
      | inr none ↦ absurd (set_and_not flags 0 (r.prefix.set 0 none (omega (arith, l.suffix.within))) clear)
    ]
  ]

  module _ (nodes : List Node) (leaves : AreLeaves flags nodes) (joined : AreJoined nodes) where
    -- the place i is that of the block of so many flags from a on
    pub block : (k i a : ℕ) → i * width k ≡ 65536 + a → a + width k ≤ 65536 → IsSummary flags a (a + width k) (node_at nodes i)
    block zero i a place small =
        let index : ℕ = i - 1024 in
        let leaf : 1024 + index ≡ i = omega arith in
        let first : 64 * index ≡ a = omega arith in
        subst (λ (m : ℕ). IsSummary flags m (m + 64) (node_at nodes i)) first
        (subst (λ (j : ℕ). IsSummary flags (64 * index) (64 * index + 64) (node_at nodes j)) leaf (leaves.each index (omega arith)))
    block (suc k) i a place small =
        let m = a + width k in
        let b = a + width k + width k in
        let fits : b ≤ 65536 = omega arith in
        let left : IsSummary flags a m (node_at nodes (2 * i)) = block k (2 * i) a (left_place i (width k) a place) (omega arith) in
        let right : IsSummary flags m b (node_at nodes (2 * i + 1)) = block k (2 * i + 1) m (right_place i (width k) a place) fits in
        let whole : IsSummary flags a b (join (node_at nodes (2 * i)) (node_at nodes (2 * i + 1))) =
        joined_summary flags a m b (node_at nodes (2 * i)) (node_at nodes (2 * i + 1)) left right (middle_even i (width k) a place (width_even k)) (crossing_fits a m b (node_at nodes (2 * i)) (node_at nodes (2 * i + 1)) fits left right) in
        let node : IsSummary flags a b (node_at nodes i) =
        subst (λ (n : Node). IsSummary flags a b n) (sym (joined.each i (place_some i (width k) a place) (place_small i (width k) a place small (width_some k)))) whole in
        subst (λ (e : ℕ). IsSummary flags a e (node_at nodes i)) (same_end a (width k)) node
