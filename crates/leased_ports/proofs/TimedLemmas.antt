-- Runs of last ends, and the least moments of blocks of spots at which they are free again.
use Rattle.std.specs.Prelude.{◌≢◌}
use Rattle.std.proofs.Common.{◌≡◌, ℕ, ◌+◌, ◌-◌, ◌*◌, ◌/◌, ◌<◌, ◌≤◌, ◌^◌, ◌==◌, ◌&&◌, nat_lt, nat_le, Bool, true, false, cond, List, [], replicate, Option, Some, None, is_some, IfSome, IfNone, refl, sym, ap, ◌∙◌, subst, inl, inr, arith}
use Rattle.std.specs.Option.{option_map}
use Rattle.std.proofs.lemmas.Bool.{and_parts, and_from, le-leb, leb-true, ltb-true, ltb-false}
use Rattle.pcp_base.specs.declared.leases.End.{End}
use Rattle.ordered_index.proofs.Entries.{false_by}
use Rattle.expiry_wheel.specs.declared.TheConstants.{NEVER}
use Rattle.expiry_wheel.specs.Moments.{latest, kept_at, IsFirstOf}
use Rattle.expiry_wheel.proofs.Maps.{same_or_not, below_or_not, cond_same, cond_other}
use Rattle.expiry_wheel.proofs.BlockMoments.{leasts_never, first_is, block_due}
use Rattle.expiry_wheel.proofs.Wheels.{latest_either}
use Rattle.port_spans.specs.declared.runs.Run.{Run}
use Rattle.port_spans.specs.Runs.{has_place, run_at, part_at, with_value, but_from, AreRuns}
use Rattle.port_spans.proofs.RunLemmas.{in_by, in_to}
use Rattle.port_spans.proofs.SpotLemmas.{if-some, but_keeps, run_whole, run_from, run_to, run_first}
use Rattle.leased_ports.specs.Frees.{AreNear, AreTimed, IsFirst, IsNear, free_at, free_of, is_over, is_over_from}

pub none-timed : (runs : List (Run End)) (frees : List ℕ) (all : ℕ) → runs ≡ [] → frees ≡ replicate all NEVER → all ≡ 16384 → AreTimed runs frees
none-timed runs frees all no_runs none is =
    let blank : AreTimed [] (replicate all NEVER) = record { apart = λ at. tt; near = λ at. tt; leasts = leasts_never 16384 all (free_at []) is (λ at. refl) } in
    subst (λ (rs : List (Run End)). AreTimed rs frees) (sym no_runs) (subst (λ (ms : List ℕ). AreTimed [] ms) (sym none) blank)

-- the moment of a run
pub free_is : (runs : List (Run End)) → AreRuns runs → (a : ℕ) (r : Run End) → run_at runs a ≡ Some r → free_at runs r.first ≡ r.value.end + 120
free_is runs apart a r there = ap (free_of r.first) (run_first runs apart a r there) ∙ cond_same r.first r.first (r.value.end + 120) NEVER refl

-- and what has one is a run that begins there
pub free_some : (at m : ℕ) → m < NEVER → (o : Option (Run End)) → free_of at o ≤ m → (r : Run End) × (o ≡ Some r) × (r.value.end + 120 ≤ m)
free_some at m some None due = absurd (omega (arith, some, due))
free_some at m some (Some r) due = elim (same_or_not r.first at) [
  | inl same ↦ (r, refl, subst (λ v. v ≤ m) (cond_same r.first at (r.value.end + 120) NEVER same) due)
  | inr other ↦ absurd (let never : NEVER ≤ m = subst (λ v. v ≤ m) (cond_other r.first at (r.value.end + 120) NEVER other) due in omega (arith, some, never))
]

pub run_near : (runs : List (Run End)) → AreNear runs → (a : ℕ) (r : Run End) → run_at runs a ≡ Some r → IsNear r
run_near runs near a r there = if-some IsNear (run_at runs a) r there (near a)

-- ---- a run is parted

part_other : (p at : ℕ) (q : Run End) → at ≢ p → (t : Bool) → (nat_lt q.first p && has_place p q) ≡ t → (b : Bool) → nat_lt at p ≡ b
    → free_of at (Some (cond t (cond b (record { first = q.first; count = p - q.first; value = q.value }) (record { first = p; count = q.first + q.count - p; value = q.value })) q)) ≡ free_of at (Some q)
part_other p at q other false e b h = refl
part_other p at q other true e true h = refl
part_other p at q other true e false h =
    let before = ltb-true q.first p (and_parts (nat_lt q.first p) (has_place p q) e).0 in
    let past = ltb-false at p h in
    cond_other p at (q.value.end + 120) NEVER (λ same. other (sym same))
    ∙ sym (cond_other q.first at (q.value.end + 120) NEVER (λ same. absurd (omega (arith, same, before, past))))

part_near : (p : ℕ) (q : Run End) → IsNear q → (t : Bool) → (nat_lt q.first p && has_place p q) ≡ t → (b : Bool)
    → IsNear (cond t (cond b (record { first = q.first; count = p - q.first; value = q.value }) (record { first = p; count = q.first + q.count - p; value = q.value })) q)
part_near p q near false e b = near
part_near p q near true e true =
    let both = and_parts (nat_lt q.first p) (has_place p q) e in
    (omega (arith, near.0, ltb-true q.first p both.0, in_to q.first q.count p both.1), near.1)
part_near p q near true e false =
    let both = and_parts (nat_lt q.first p) (has_place p q) e in
    (omega (arith, near.0, in_to q.first q.count p both.1), near.1)

module _ (runs : List (Run End)) (p : ℕ) (new : List (Run End)) (cut : (at : ℕ) → run_at new at ≡ option_map (part_at p at) (run_at runs at)) where
  part_free : (at : ℕ) → at ≢ p → (o : Option (Run End)) → free_of at (option_map (part_at p at) o) ≡ free_of at o
  part_free at other None = refl
  part_free at other (Some q) = part_other p at q other (nat_lt q.first p && has_place p q) refl (nat_lt at p) refl

  pub cut-free : (at : ℕ) → at ≢ p → free_at new at ≡ free_at runs at
  cut-free at other = ap (free_of at) (cut at) ∙ part_free at other (run_at runs at)

  near_part : (at : ℕ) (o : Option (Run End)) → IfSome o IsNear → IfSome (option_map (part_at p at) o) IsNear
  near_part at None near = tt
  near_part at (Some q) near = part_near p q near (nat_lt q.first p && has_place p q) refl (nat_lt at p)

  pub cut-near : AreNear runs → AreNear new
  cut-near near at = subst (λ (o : Option (Run End)). IfSome o IsNear) (sym (cut at)) (near_part at (run_at runs at) (near at))

-- ---- a run comes

module _ (runs : List (Run End)) (r : Run End) (free : (at : ℕ) → has_place at r ≡ true → run_at runs at ≡ None)
    (new : List (Run End)) (comes : (at : ℕ) → run_at new at ≡ cond (has_place at r) (Some r) (run_at runs at)) where
  comes_free : (at : ℕ) → at ≢ r.first → (t : Bool) → has_place at r ≡ t → free_of at (cond t (Some r) (run_at runs at)) ≡ free_of at (run_at runs at)
  comes_free at other true h = cond_other r.first at (r.value.end + 120) NEVER (λ same. other (sym same)) ∙ sym (ap (free_of at) (free at h))
  comes_free at other false h = refl

  pub insert-free : (at : ℕ) → at ≢ r.first → free_at new at ≡ free_at runs at
  insert-free at other = ap (free_of at) (comes at) ∙ comes_free at other (has_place at r) refl

  near_comes : (at : ℕ) → IsNear r → IfSome (run_at runs at) IsNear → (t : Bool) → IfSome (cond t (Some r) (run_at runs at)) IsNear
  near_comes at own near true = own
  near_comes at own near false = near

  pub insert-near : IsNear r → AreNear runs → AreNear new
  insert-near own near at = subst (λ (o : Option (Run End)). IfSome o IsNear) (sym (comes at)) (near_comes at own (near at) (has_place at r))

-- ---- a run gets another last end

module _ (runs : List (Run End)) (first : ℕ) (value : End) (new : List (Run End)) (changed : (at : ℕ) → run_at new at ≡ option_map (with_value first value) (run_at runs at)) where
  value_free : (at : ℕ) → at ≢ first → (o : Option (Run End)) → free_of at (option_map (with_value first value) o) ≡ free_of at o
  value_free at other None = refl
  value_free at other (Some q) = elim (same_or_not q.first first) [
    | inl same ↦
        let apart : q.first ≢ at = λ e. other (sym e ∙ same) in
        ap (λ (x : Run End). free_of at (Some x)) (cond_same q.first first (record q { value = value }) q same)
        ∙ cond_other q.first at (value.end + 120) NEVER apart ∙ sym (cond_other q.first at (q.value.end + 120) NEVER apart)
    | inr ne ↦ ap (λ (x : Run End). free_of at (Some x)) (cond_other q.first first (record q { value = value }) q ne)
  ]

  pub value-free : (at : ℕ) → at ≢ first → free_at new at ≡ free_at runs at
  value-free at other = ap (free_of at) (changed at) ∙ value_free at other (run_at runs at)

  -- and there
  value_now : (o : Option (Run End)) → IfSome o IsNear → free_of first (option_map (with_value first value) o) ≡ cond (free_of first o == NEVER) NEVER (value.end + 120)
  value_now None near = sym (cond_same NEVER NEVER NEVER (value.end + 120) refl)
  value_now (Some q) near = elim (same_or_not q.first first) [
    | inl same ↦
        let was : free_of first (Some q) ≡ q.value.end + 120 = cond_same q.first first (q.value.end + 120) NEVER same in
        let some : free_of first (Some q) ≢ NEVER = λ e. omega (arith, e, was, near.1) in
        ap (λ (x : Run End). free_of first (Some x)) (cond_same q.first first (record q { value = value }) q same)
        ∙ cond_same q.first first (value.end + 120) NEVER same ∙ sym (cond_other (free_of first (Some q)) NEVER NEVER (value.end + 120) some)
    | inr ne ↦
        let was : free_of first (Some q) ≡ NEVER = cond_other q.first first (q.value.end + 120) NEVER ne in
        ap (λ (x : Run End). free_of first (Some x)) (cond_other q.first first (record q { value = value }) q ne) ∙ was ∙ sym (cond_same (free_of first (Some q)) NEVER NEVER (value.end + 120) was)
  ]

  pub value-now : AreNear runs → free_at new first ≡ cond (free_at runs first == NEVER) NEVER (value.end + 120)
  value-now near = ap (free_of first) (changed first) ∙ value_now (run_at runs first) (near first)

  near_value : value.end < 2 ^ 41 → (o : Option (Run End)) → IfSome o IsNear → IfSome (option_map (with_value first value) o) IsNear
  near_value low None near = tt
  near_value low (Some q) near = by (q.first == first)
    where
      by : (t : Bool) → IsNear (cond t (record q { value = value }) q)
      by true = (near.0, low)
      by false = near

  pub value-near : value.end < 2 ^ 41 → AreNear runs → AreNear new
  value-near low near at = subst (λ (o : Option (Run End)). IfSome o IsNear) (sym (changed at)) (near_value low (run_at runs at) (near at))

-- ---- a run goes

module _ (runs : List (Run End)) (first : ℕ) (new : List (Run End)) (left : (at : ℕ) → run_at new at ≡ but_from first (run_at runs at)) where
  gone_free : (at : ℕ) → at ≢ first → (o : Option (Run End)) → free_of at (but_from first o) ≡ free_of at o
  gone_free at other None = refl
  gone_free at other (Some q) = elim (same_or_not q.first first) [
    | inl same ↦ ap (free_of at) (cond_same q.first first None (Some q) same) ∙ sym (cond_other q.first at (q.value.end + 120) NEVER (λ e. other (sym e ∙ same)))
    | inr ne ↦ ap (free_of at) (cond_other q.first first None (Some q) ne)
  ]

  pub remove-free : (at : ℕ) → at ≢ first → free_at new at ≡ free_at runs at
  remove-free at other = ap (free_of at) (left at) ∙ gone_free at other (run_at runs at)

  -- none begins there
  gone_now : (o : Option (Run End)) → free_of first (but_from first o) ≡ NEVER
  gone_now None = refl
  gone_now (Some q) = elim (same_or_not q.first first) [
    | inl same ↦ ap (free_of first) (cond_same q.first first None (Some q) same)
    | inr ne ↦ ap (free_of first) (cond_other q.first first None (Some q) ne) ∙ cond_other q.first first (q.value.end + 120) NEVER ne
  ]

  pub remove-now : free_at new first ≡ NEVER
  remove-now = ap (free_of first) (left first) ∙ gone_now (run_at runs first)

  pub remove-near : AreNear runs → AreNear new
  remove-near near at = subst (λ (o : Option (Run End)). IfSome o IsNear) (sym (left at)) (but_keeps IsNear first (run_at runs at) (near at))

-- ---- the first spot of a run whose rest is over

module _ (runs : List (Run End)) (frees : List ℕ) (is : AreTimed runs frees) (from m : ℕ) (most : m ≤ NEVER) (here : is_over m (run_at runs from) ≡ false) where
  -- a run that has a spot from there on, and whose rest is over, begins there or behind it
  begins_past : (other : ℕ) (q : Run End) → run_at runs other ≡ Some q → from ≤ other → is_over m (Some q) ≡ true → from ≤ q.first
  begins_past other q own past over = elim (below_or_not q.first from) [
    | inl less ↦ absurd (
        let has : has_place from q ≡ true = in_by q.first q.count from (omega (arith, less)) (omega (arith, past, run_to runs is.apart other q own)) in
        let no : true ≡ false = sym over ∙ ap (is_over m) (sym (run_whole runs is.apart other q own from has)) ∙ here in cc)
    | inr from_on ↦ from_on
  ]

  -- and it is free again by then
  found_run : (other : ℕ) → is_over_from from m runs other ≡ true → (first : ℕ) × (from ≤ first) × (first ≤ other) × (first < 131072) × (free_at runs first ≤ latest m)
  found_run other h = by (run_at runs other) refl
    where
      by : (o : Option (Run End)) → run_at runs other ≡ o → (first : ℕ) × (from ≤ first) × (first ≤ other) × (first < 131072) × (free_at runs first ≤ latest m)
      by None e = absurd (let both = and_parts (nat_le from other) (is_over m (run_at runs other)) h in let no : false ≡ true = sym (ap (is_over m) e) ∙ both.1 in cc)
      by (Some q) e =
          let both = and_parts (nat_le from other) (is_over m (run_at runs other)) h in
          let over : is_over m (Some q) ≡ true = sym (ap (is_over m) e) ∙ both.1 in
          let due : q.value.end + 120 ≤ m = leb-true (q.value.end + 120) m over in
          let near : IsNear q = run_near runs is.near other q e in
          let last = (latest_either m most).2 (q.value.end + 120) due (λ never. omega (arith, never, near.1)) in
          let from_on = run_from runs is.apart other q e in
          (q.first, begins_past other q e (leb-true from other both.0) over, from_on, omega (arith, near.0, from_on, run_to runs is.apart other q e), omega (arith, free_is runs is.apart other q e, last))

  pub over_due : (at : ℕ) → IsFirstOf (free_at runs) from (latest m) at → IsFirst (is_over_from from m runs) (Some at)
  over_due at due =
      let run = free_some at (latest m) (latest_either m most).1 (run_at runs at) due.due in
      let over : is_over m (run_at runs at) ≡ true = ap (is_over m) run.1 ∙ le-leb (run.0.value.end + 120) m (omega (arith, run.2, (latest_either m most).0)) in (
        and_from _ _ (le-leb from at due.from_on) over,
        λ other h.
            let f = found_run other h in
            elim (below_or_not f.0 at) [
              | inl less ↦ absurd (omega (arith, due.first f.0 f.1 less, f.4))
              | inr on ↦ omega (arith, on, f.2)
            ],
      )

  pub over_none : ((at : ℕ) → from ≤ at → at < 131072 → latest m < free_at runs at) → IsFirst (is_over_from from m runs) None
  over_none none other = false_by (is_over_from from m runs other) (λ h. let f = found_run other h in absurd (omega (arith, none f.0 f.1 f.3, f.4)))

  pub over_found : (o : Option ℕ) → IfSome o (IsFirstOf (free_at runs) from (latest m)) → IfNone o ((at : ℕ) → from ≤ at → at < 131072 → latest m < free_at runs at) → IsFirst (is_over_from from m runs) o
  over_found None first none = over_none none
  over_found (Some at) first none = over_due at first

-- ---- the next block that has one

pub none_when : (found : Option ℕ) (P : Type 0) → is_some found ≡ false → IfNone found P → P
none_when None P none is = is
none_when (Some at) P none is = cc

module _ (runs : List (Run End)) (frees : List ℕ) (is : AreTimed runs frees) (from m b : ℕ) (low : b < 16384) (next : IsFirstOf (kept_at frees) (from / 8 + 1) m b) where
  -- its first is the first
  pub block_first : ((j : ℕ) → from ≤ j → j < 8 * (from / 8) + 8 → m < free_at runs j) → (found : Option ℕ) → IfSome found (IsFirstOf (free_at runs) (8 * b) m) → IfSome found (λ at. at < 8 * b + 8) → IfSome found (IsFirstOf (free_at runs) from m)
  block_first own None here near = tt
  block_first own (Some at) here near = first_is 16384 (free_at runs) frees is.leasts m from b at (omega (arith, low, near)) own next here

  -- and there is one
  pub block_none : m < NEVER → (found : Option ℕ) (P : Type 0) → IfNone found ((at : ℕ) → 8 * b ≤ at → at < 8 * b + 8 → m < free_at runs at) → IfNone found P
  block_none some None P none = absurd (block_due 16384 (free_at runs) frees is.leasts m b some low next.due none)
  block_none some (Some at) P none = tt
