-- Blocks of places, by the least that a function of places has in each.
use Rattle.std.proofs.Common.{◌≡◌, ◌≢◌, ℕ, zero, suc, ◌+◌, ◌-◌, ◌*◌, ◌/◌, ◌<◌, ◌≤◌, List, length, replicate, min, slice_set, refl, sym, ap, subst, ◌∙◌, arith, ◌⊎◌, inl, inr}
use Rattle.std.proofs.Math.Nat.{min-le_left, min-le_right, min-eq_left, min-eq_right, le-min}
use Rattle.std.proofs.lemmas.List.{length-set, length-replicate, get_or-replicate, get_or-set_same, get_or-set_other}
use Rattle.expiry_wheel.specs.declared.TheConstants.{NEVER}
use Rattle.expiry_wheel.specs.Moments.{kept_at, IsFirstOf, IsFirstIn, IsNextIn}
use Rattle.expiry_wheel.specs.Blocks.{least_at, AreLeasts, IsWheel}
use Rattle.expiry_wheel.proofs.Maps.{same_or_not, below_or_not}
use Rattle.expiry_wheel.proofs.LeastLists.{never_both}

-- one place more
pub least_none : (f : ℕ → ℕ) (at : ℕ) → NEVER ≡ least_at f at 0
unfolding least_at
least_none f at = refl

pub least_one_more : (f : ℕ → ℕ) (at n least : ℕ) → least ≡ least_at f at n → min least (f (at + n)) ≡ least_at f at (suc n)
unfolding least_at
least_one_more f at n least is = ap (λ a. min a (f (at + n))) is

-- the least of some is no more than each of them
pub least_most : (f : ℕ → ℕ) (at n k : ℕ) → k < n → least_at f at n ≤ f (at + k)
unfolding least_at
least_most f at zero k h = absurd (omega (arith, h))
least_most f at (suc n) k h = elim (same_or_not k n) [
  | inl e ↦ subst (λ x. min (least_at f at n) (f (at + n)) ≤ f (at + x)) (sym e) (min-le_right (least_at f at n) (f (at + n)))
  | inr ne ↦
      let before = least_most f at n k (omega (arith, h, ne)) in
      omega (arith, before, min-le_left (least_at f at n) (f (at + n)))
]

-- and more than m where they are
pub least_more : (f : ℕ → ℕ) (at n m : ℕ) → m < NEVER → ((k : ℕ) → k < n → m < f (at + k)) → m < least_at f at n
unfolding least_at
least_more f at zero m h later = h
least_more f at (suc n) m h later =
    let before = least_more f at n m h (λ k low. later k (omega (arith, low))) in
    let both : m + 1 ≤ min (least_at f at n) (f (at + n)) = le-min (omega (arith, before)) (omega (arith, later n (omega arith))) in
    omega (arith, both)

-- it is the same of functions that are the same there
pub least_same : (f g : ℕ → ℕ) (at n : ℕ) → ((k : ℕ) → k < n → g (at + k) ≡ f (at + k)) → least_at g at n ≡ least_at f at n
unfolding least_at
least_same f g at zero same = refl
least_same f g at (suc n) same =
    ap (λ a. min a (g (at + n))) (least_same f g at n (λ k h. same k (omega (arith, h))))
    ∙ ap (min (least_at f at n)) (same n (omega arith))

-- no less than what is no more than each
least_low : (f : ℕ → ℕ) (at n m : ℕ) → m ≤ NEVER → ((k : ℕ) → k < n → m ≤ f (at + k)) → m ≤ least_at f at n
unfolding least_at
least_low f at zero m most low = most
least_low f at (suc n) m most low = le-min (least_low f at n m most (λ k h. low k (omega (arith, h)))) (low n (omega arith))

least_never : (f : ℕ → ℕ) (at n : ℕ) → least_at f at n ≤ NEVER
unfolding least_at
least_never f at zero = omega arith
least_never f at (suc n) = omega (arith, min-le_left (least_at f at n) (f (at + n)), least_never f at n)

-- one of them has it, or it is NEVER
least_found : (f : ℕ → ℕ) (at n : ℕ) → (least_at f at n ≡ NEVER) ⊎ ((k : ℕ) × (k < n) × (f (at + k) ≡ least_at f at n))
unfolding least_at
least_found f at zero = inl refl
least_found f at (suc n) = elim (below_or_not (f (at + n)) (least_at f at n)) [
  | inl less ↦ inr (n, omega arith, sym (min-eq_right (omega (arith, less))))
  | inr on ↦
      let same : min (least_at f at n) (f (at + n)) ≡ least_at f at n = min-eq_left on in
      elim (least_found f at n) [
        | inl never ↦ inl (same ∙ never)
        | inr found ↦ inr (found.0, omega (arith, found.1), found.2 ∙ sym same)
      ]
]

-- where each is NEVER
pub never_least : (f : ℕ → ℕ) (at n : ℕ) → ((i : ℕ) → f i ≡ NEVER) → least_at f at n ≡ NEVER
unfolding least_at
never_least f at zero never = refl
never_least f at (suc n) never = ap (λ a. min a (f (at + n))) (never_least f at n never) ∙ ap (min NEVER) (never (at + n)) ∙ never_both

pub leasts_never : (n all : ℕ) (f : ℕ → ℕ) → all ≡ n → ((i : ℕ) → f i ≡ NEVER) → AreLeasts n f (replicate all NEVER)
leasts_never n all f is never = record {
  all = length-replicate all NEVER ∙ is;
  blocks = λ b within. get_or-replicate all b NEVER NEVER (omega (arith, within, is)) ∙ sym (never_least f (8 * b) 8 never);
}

module _ (n : ℕ) (f : ℕ → ℕ) (leasts : List ℕ) (are : AreLeasts n f leasts) where
  -- the function is another in one block, whose least is told
  pub leasts_told : (g : ℕ → ℕ) (block least : ℕ) → block < n → ((i : ℕ) → i / 8 ≢ block → g i ≡ f i) → least ≡ least_at g (8 * block) 8 → AreLeasts n g (slice_set leasts block least)
  leasts_told g block least low others is = record {
    all = length-set leasts block least ∙ are.all;
    blocks = λ b within. elim (same_or_not b block) [
      | inl e ↦
          subst (λ x. kept_at (slice_set leasts block least) x ≡ least_at g (8 * x) 8) (sym e)
          (get_or-set_same leasts block least NEVER (omega (arith, low, are.all)) ∙ is)
      | inr ne ↦
          get_or-set_other leasts block b least NEVER ne ∙ are.blocks b within
          ∙ sym (least_same f g (8 * b) 8 (λ k h. others (8 * b + k) (λ e. ne (omega (arith, h, e)))))
    ];
  }

  -- it is another at no place of theirs
  pub leasts_same : (g : ℕ → ℕ) → ((i : ℕ) → i < 8 * n → g i ≡ f i) → AreLeasts n g leasts
  leasts_same g same = record {
    all = are.all;
    blocks = λ b within. are.blocks b within ∙ sym (least_same f g (8 * b) 8 (λ k h. same (8 * b + k) (omega (arith, h, within))));
  }

  -- it is another at one place alone
  module _ (g : ℕ → ℕ) (at : ℕ) (low : at < 8 * n) (some : g at ≤ NEVER) (others : (i : ℕ) → i ≢ at → g i ≡ f i) where
    least_was : kept_at leasts (at / 8) ≡ least_at f (8 * (at / 8)) 8
    least_was = are.blocks (at / 8) (omega (arith, low))

    no_less : (m : ℕ) → m ≤ kept_at leasts (at / 8) → m ≤ g at → m ≤ least_at g (8 * (at / 8)) 8
    no_less m under own = least_low g (8 * (at / 8)) 8 m (omega (arith, own, some)) (λ k h. elim (same_or_not (8 * (at / 8) + k) at) [
      | inl e ↦ subst (λ i. m ≤ g i) (sym e) own
      | inr ne ↦ omega (arith, others (8 * (at / 8) + k) ne, least_most f (8 * (at / 8)) 8 k h, least_was, under)
    ])

    -- no more there than the least was
    pub leasts_lower : g at ≤ kept_at leasts (at / 8) → AreLeasts n g (slice_set leasts (at / 8) (g at))
    leasts_lower under =
        let block : ℕ = 8 * (at / 8) in
        let place : block + (at - block) ≡ at = omega arith in
        let most : least_at g block 8 ≤ g at = subst (λ i. least_at g block 8 ≤ g i) place (least_most g block 8 (at - block) (omega arith)) in
        leasts_told g (at / 8) (g at) (omega (arith, low)) (λ i apart. others i (λ e. apart (ap (λ (k : ℕ). k / 8) e))) (omega (arith, most, no_less (g at) under (omega arith)))

    -- more there than the least, which was another's
    pub leasts_stay : kept_at leasts (at / 8) < g at → f at ≢ kept_at leasts (at / 8) → AreLeasts n g leasts
    leasts_stay over other = record {
      all = are.all;
      blocks = λ b within. elim (same_or_not b (at / 8)) [
        | inl e ↦ subst (λ x. kept_at leasts x ≡ least_at g (8 * x) 8) (sym e) (omega (arith, no_less (kept_at leasts (at / 8)) (omega arith) (omega (arith, over)), no_more))
        | inr ne ↦ are.blocks b within ∙ sym (least_same f g (8 * b) 8 (λ k h. others (8 * b + k) (λ e. ne (omega (arith, h, e)))))
      ];
    }
      where
        no_more : least_at g (8 * (at / 8)) 8 ≤ kept_at leasts (at / 8)
        no_more = elim (least_found f (8 * (at / 8)) 8) [
          | inl never ↦ absurd (omega (arith, never, least_was, over, some))
          | inr found ↦
              let apart : 8 * (at / 8) + found.0 ≢ at = λ e. other (sym (ap f e) ∙ found.2 ∙ sym least_was) in
              omega (arith, least_most g (8 * (at / 8)) 8 found.0 found.1, others (8 * (at / 8) + found.0) apart, found.2, least_was)
        ]

  module _ (m : ℕ) where
    -- what a block has, by its least
    pub block_later : (b i : ℕ) → b < n → m < kept_at leasts b → 8 * b ≤ i → i < 8 * b + 8 → m < f i
    block_later b i low later from to =
        let is = are.blocks b low in
        let most = least_most f (8 * b) 8 (i - 8 * b) (omega (arith, from, to)) in
        let spot : 8 * b + (i - 8 * b) ≡ i = omega (arith, from) in
        let there : f (8 * b + (i - 8 * b)) ≡ f i = ap f spot in
        omega (arith, is, most, there, later)

    pub block_due : (b : ℕ) → m < NEVER → b < n → kept_at leasts b ≤ m → ((i : ℕ) → 8 * b ≤ i → i < 8 * b + 8 → m < f i) → ⊥
    block_due b some low due later =
        let is = are.blocks b low in
        let more = least_more f (8 * b) 8 m some (λ k h. later (8 * b + k) (omega arith) (omega (arith, h))) in
        omega (arith, is, more, due)

    -- the block of a place
    pub place_later : (i : ℕ) → i < 8 * n → m < kept_at leasts (i / 8) → m < f i
    place_later i low later = block_later (i / 8) i (omega (arith, low)) later (omega arith) (omega arith)

    pub all_later : ((b : ℕ) → b < length leasts → m < kept_at leasts b) → (i : ℕ) → i < 8 * n → m < f i
    all_later none i low = place_later i low (none (i / 8) (omega (arith, low, are.all)))

    -- a place after its block is in a block that comes after it
    pub first_is : (from b i : ℕ) → i < 8 * n → ((j : ℕ) → from ≤ j → j < 8 * (from / 8) + 8 → m < f j) → IsFirstIn leasts (from / 8 + 1) m b → IsFirstOf f (8 * b) m i → IsFirstOf f from m i
    first_is from b i within own next found = record {
      from_on = omega (arith, next.from_on, found.from_on);
      due = found.due;
      first = λ j after before. elim (below_or_not j (8 * (from / 8) + 8)) [
        | inl mine ↦ own j after mine
        | inr later ↦ elim (below_or_not j (8 * b)) [
          | inl left ↦ place_later j (omega (arith, before, within)) (next.first (j / 8) (omega (arith, later)) (omega (arith, left)))
          | inr here ↦ found.first j here before
        ]
      ];
    }

    pub none_is : (from : ℕ) → ((j : ℕ) → from ≤ j → j < 8 * (from / 8) + 8 → m < f j) → ((b : ℕ) → from / 8 + 1 ≤ b → b < length leasts → m < kept_at leasts b) → (i : ℕ) → from ≤ i → i < 8 * n → m < f i
    none_is from own none i after low = elim (below_or_not i (8 * (from / 8) + 8)) [
      | inl mine ↦ own i after mine
      | inr later ↦ place_later i low (none (i / 8) (omega (arith, later)) (omega (arith, low, are.all)))
    ]

  module _ (m b : ℕ) (next : IsNextIn leasts m b) where
    -- the least of the next block is the least of all
    pub next_least : (i : ℕ) → i < 8 * n → kept_at leasts b ≤ f i
    next_least i low = elim (below_or_not (f i) (kept_at leasts b)) [
      | inl lower ↦
          let least = next.least (i / 8) (omega (arith, low, are.all)) in
          let more = place_later (f i) i low (omega (arith, lower, next.first.due, least)) in
          absurd (omega (arith, more))
      | inr on ↦ on
    ]

    -- so the first that is due by then in that block is the first of all
    pub next_first : (least i : ℕ) → least ≡ kept_at leasts b → i < 8 * n → IsFirstOf f (8 * b) least i → IsFirstOf f 0 least i
    next_first least i is within found = record {
      from_on = omega arith;
      due = found.due;
      first = λ j zero_on before. elim (below_or_not j (8 * b)) [
        | inl left ↦
            let earlier = next.first.first (j / 8) (omega arith) (omega (arith, left)) in
            place_later least j (omega (arith, before, within)) (omega (arith, is, next.first.due, earlier))
        | inr here ↦ found.first j here before
      ];
    }

-- ---- a moment for each id

pub next_is : (moments leasts : List ℕ) (m least b id : ℕ) → IsWheel moments leasts → IsNextIn leasts m b → least ≡ kept_at leasts b → id < 131072 → IsFirstIn moments (8 * b) least id → IsNextIn moments m id
next_is moments leasts m least b id wheel next is within found = record {
  moment = least;
  due = omega (arith, is, next.first.due, next.due);
  least = λ j low. omega (arith, is, next_least 16384 (kept_at moments) leasts wheel.blocks m b next j (omega (arith, low, wheel.ids)));
  first = next_first 16384 (kept_at moments) leasts wheel.blocks m b next least id is (omega (arith, within)) found;
}

-- a moment is written, and the least of its block
pub wheel_written : (moments leasts : List ℕ) (id v least : ℕ) → IsWheel moments leasts → id < 131072 → least ≡ least_at (kept_at (slice_set moments id v)) (8 * (id / 8)) 8 → IsWheel (slice_set moments id v) (slice_set leasts (id / 8) least)
wheel_written moments leasts id v least wheel low is = record {
  ids = length-set moments id v ∙ wheel.ids;
  blocks = leasts_told 16384 (kept_at moments) leasts wheel.blocks (kept_at (slice_set moments id v)) (id / 8) least (omega (arith, low))
      (λ i apart. get_or-set_other moments id i v NEVER (λ e. apart (ap (λ (k : ℕ). k / 8) e))) is;
}

pub wheel_blank : (moments : List ℕ) (all : ℕ) → length moments ≡ 131072 → all ≡ 16384 → ((i : ℕ) → kept_at moments i ≡ NEVER) → IsWheel moments (replicate all NEVER)
wheel_blank moments all ids is never = record { ids = ids; blocks = leasts_never 16384 all (kept_at moments) is never }
