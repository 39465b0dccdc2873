-- The runs of two blocks side by side.
use Rattle.std.proofs.Common.{◌≡◌, ℕ, ◌+◌, ◌-◌, ◌%◌, ◌<◌, ◌≤◌, ◌⊎◌, max, Bool, true, false, List, slice_index_or, refl, sym, ◌∙◌, subst, arith, inl, inr}
use Rattle.std.proofs.lemmas.Bool.{cases_lt}
use Rattle.port_runs.specs.Flags.{IsSetBetween}
use Rattle.port_runs.specs.Nodes.{IsPrefix, IsSuffix, RunIn, IsLongest}

one_of_max : (x y : ℕ) → (max x y ≡ x) ⊎ (max x y ≡ y)
one_of_max x y = elim (cases_lt x y) [ inl less ↦ inr (omega arith) | inr more ↦ inl (omega arith) ]

-- the greatest of three is one of them
of_three : (P : ℕ → Type 0) (x y z : ℕ) → (1 ≤ x → P x) → (1 ≤ y → P y) → (1 ≤ z → P z) → 1 ≤ max (max x y) z → P (max (max x y) z)
of_three P x y z px py pz some = elim (one_of_max (max x y) z) [
  | inl first ↦ elim (one_of_max x y) [
    | inl here ↦ subst P (sym (first ∙ here)) (px (omega arith))
    | inr there ↦ subst P (sym (first ∙ there)) (py (omega arith))
  ]
  | inr last ↦ subst P (sym last) (pz (omega arith))
]

-- a flag is not both
pub set_and_not : (flags : List Bool) (i : ℕ) → slice_index_or flags i false ≡ true → slice_index_or flags i false ≡ false → ⊥
set_and_not flags i is isnt = let bad : true ≡ false = sym is ∙ isnt in (cc)

module _ (flags : List Bool) (a m b : ℕ) where
  pub prefix_on : (p q : ℕ) → a + p ≡ m → IsPrefix flags a m p → IsPrefix flags m b q → IsPrefix flags a b (p + q)
  prefix_on p q full l r = record {
    within = omega (arith, r.within);
    set = λ i low high. elim (cases_lt i m) [ inl left ↦ l.set i low (omega arith) | inr right ↦ r.set i right (omega arith) ];
    ends = λ i here small. r.ends i (omega arith) small;
  }

  pub prefix_stays : (p : ℕ) → a + p < m → m ≤ b → IsPrefix flags a m p → IsPrefix flags a b p
  prefix_stays p gap ordered l = record {
    within = omega arith;
    set = l.set;
    ends = λ i here small. l.ends i here (omega arith);
  }

  pub suffix_on : (p q : ℕ) → m + q ≡ b → IsSuffix flags a m p → IsSuffix flags m b q → IsSuffix flags a b (q + p)
  suffix_on p q full l r = record {
    within = omega (arith, l.within);
    set = λ i low high. elim (cases_lt i m) [ inl left ↦ l.set i (omega arith) left | inr right ↦ r.set i (omega arith) high ];
    ends = λ i here large. l.ends i (omega arith) large;
  }

  pub suffix_stays : (q : ℕ) → m + q < b → a ≤ m → IsSuffix flags m b q → IsSuffix flags a b q
  suffix_stays q gap ordered r = record {
    within = omega arith;
    set = r.set;
    ends = λ i here large. r.ends i here (omega arith);
  }

  -- a run over the middle begins in the left block's suffix
  pub begins_late : (q s : ℕ) → IsSuffix flags a m q → a ≤ s → IsSetBetween flags s m → m ≤ s + q
  begins_late q s l from set = elim (cases_lt (s + q) m) [
    | inl early ↦ absurd (set_and_not flags (m - q - 1) (set (m - q - 1) (omega arith) (omega arith)) (l.ends (m - q - 1) (omega (arith, l.within)) (omega arith)))
    | inr late ↦ late
  ]

  -- and ends in the right block's prefix
  pub ends_early : (p t : ℕ) → IsPrefix flags m b p → t ≤ b → IsSetBetween flags m t → t ≤ m + p
  ends_early p t r to set = elim (cases_lt (m + p) t) [
    | inl late ↦ absurd (set_and_not flags (m + p) (set (m + p) (omega arith) late) (r.ends (m + p) refl (omega arith)))
    | inr early ↦ early
  ]

  module _ (remainder left right q p first across : ℕ) (ordered : a ≤ m) (l : IsLongest flags a m remainder left) (r : IsLongest flags m b remainder right) (sl : IsSuffix flags a m q) (pr : IsPrefix flags m b p)
      (first_has : first % 2 ≡ remainder) (first_low : m ≤ first + q) (first_high : first + q ≤ m + 1) (across_is : across ≡ m + p - first) where
    longest_most : (s k : ℕ) → s % 2 ≡ remainder → a ≤ s → s + k ≤ b → IsSetBetween flags s (s + k) → (k ≤ left) ⊎ ((k ≤ right) ⊎ (k ≤ across))
    longest_most s k even from to set = elim (cases_lt m (s + k)) [
      | inr in_left ↦ inl (l.most s k even from in_left set)
      | inl past ↦ elim (cases_lt s m) [
        | inr in_right ↦ inr (inl (r.most s k even in_right to set))
        | inl over ↦
            let late : m ≤ s + q = begins_late q s sl from (λ i low high. set i low (omega arith)) in
            let early : s + k ≤ m + p = ends_early p (s + k) pr to (λ i low high. set i (omega arith) high) in
            inr (inr (omega arith))
      ]
    ]

    across_met : 1 ≤ across → RunIn flags a b remainder across
    across_met some = record {
      start = first;
      from = omega (arith, sl.within);
      to = omega (arith, pr.within);
      has = first_has;
      set = λ i low high. elim (cases_lt i m) [ inl in_left ↦ sl.set i (omega arith) in_left | inr in_right ↦ pr.set i in_right (omega arith) ];
    }

    wider_left : (n : ℕ) → m ≤ b → RunIn flags a m remainder n → RunIn flags a b remainder n
    wider_left n h run = record { start = run.start; from = run.from; to = omega (arith, run.to); has = run.has; set = run.set }

    wider_right : (n : ℕ) → RunIn flags m b remainder n → RunIn flags a b remainder n
    wider_right n run = record { start = run.start; from = omega (arith, run.from); to = run.to; has = run.has; set = run.set }

    pub longest_joined : IsLongest flags a b remainder (max (max left right) across)
    longest_joined = record {
      most = λ s k even from to set. elim (longest_most s k even from to set) [
        | inl h ↦ omega arith
        | inr h ↦ elim h [ inl h' ↦ omega arith | inr h' ↦ omega arith ]
      ];
      met = of_three (RunIn flags a b remainder) left right across (λ some. wider_left left (omega (arith, pr.within)) (l.met some)) (λ some. wider_right right (r.met some)) across_met;
    }
