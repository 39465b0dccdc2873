-- The runs of a slab, and the run of each place.
use Rattle.std.specs.Prelude.{◌⊎◌}
use Rattle.std.proofs.Common.{◌≡◌, ◌≢◌, ℕ, zero, suc, ◌+◌, ◌<◌, ◌≤◌, ◌==◌, nat_lt, min, Bool, true, false, List, [], ◌∷◌, length, replicate, Option, Some, None, IsSome, IfSome, slice_index_or, refl, sym, ap, ◌∙◌, subst, inl, inr, arith}
use Rattle.std.specs.List.{filter_map}
use Rattle.std.proofs.lemmas.Bool.{eqb-true, eq-eqb}
use Rattle.std.proofs.lemmas.List.{length-replicate, get_or-replicate, get_or_past}
use Rattle.std.proofs.lemmas.Bool.Decides.{nat_tests}
use Rattle.pcp_base.proofs.Members.{IsIn, find-some, find-IsIn}
use Rattle.ordered_index.proofs.EntryLaws.{none_by, none_some, some_one}
use Rattle.port_runs.specs.Ports.{is_in_run}
use Rattle.slab.specs.Slab.{Slab, get, values}
use Rattle.port_spans.specs.declared.runs.Run.{Run}
use Rattle.port_spans.specs.Runs.{has_place, run_at, AreRuns, IsRunAt, IsNextRun}
use Rattle.port_spans.specs.Kept.{AreKept, slot_at, key_of}

-- two numbers are the same, or not
pub same_or : (a b : ℕ) → (a ≡ b) ⊎ (a ≢ b)
same_or a b = step (a == b) refl
  where
    step : (c : Bool) → (a == b) ≡ c → (a ≡ b) ⊎ (a ≢ b)
    step true e = inl (eqb-true a b e)
    step false e = inr (λ same. absurd (let no : true ≡ false = sym (eq-eqb a b same) ∙ e in cc))

below_or : (a b : ℕ) → (a < b) ⊎ (b ≤ a)
below_or a b = step (nat_lt a b) refl
  where
    step : (c : Bool) → nat_lt a b ≡ c → (a < b) ⊎ (b ≤ a)
    step true e = inl (grind (arith, nat_tests, e))
    step false e = inr (grind (arith, nat_tests, e))

pub in_from : (first count at : ℕ) → is_in_run first count at ≡ true → first ≤ at
in_from first count at h = grind (arith, nat_tests, h)

pub in_to : (first count at : ℕ) → is_in_run first count at ≡ true → at < first + count
in_to first count at h = grind (arith, nat_tests, h)

pub in_by : (first count at : ℕ) → first ≤ at → at < first + count → is_in_run first count at ≡ true
in_by first count at h k = grind (arith, nat_tests, h, k)

-- what is at the lesser of two is at one of them
pub past_one : (at end : ℕ) → min end 131072 ≤ at → (end ≤ at) ⊎ (131072 ≤ at)
past_one at end h = elim (below_or at end) [
  | inl less ↦ inr (omega (arith, h, less))
  | inr past ↦ inl past
]

-- no run begins from a place on and before another
abbrev pub NoneBegins : {V : Type 0} → List (Run V) → ℕ → ℕ → Type 0
NoneBegins runs place to = (at : ℕ) → place ≤ at → at < to → IfSome (run_at runs at) (λ r. r.first ≢ at)

pub none_first : {V : Type 0} (runs : List (Run V)) (place at : ℕ) → at ≤ place → NoneBegins runs place at
none_first runs place at low other from before = absurd (omega (arith, low, from, before))

-- one place more
more_step : {V : Type 0} (o : Option (Run V)) (at : ℕ) → ((r : Run V) → o ≡ Some r → r.first ≢ at) → IfSome o (λ r. r.first ≢ at)
more_step None at h = tt
more_step (Some r) at h = h r refl

pub none_more : {V : Type 0} (runs : List (Run V)) (place to : ℕ) → NoneBegins runs place to → ((r : Run V) → run_at runs to ≡ Some r → r.first ≢ to) → NoneBegins runs place (to + 1)
none_more runs place to none here at from before = elim (same_or at to) [
  | inl same ↦ more_step (run_at runs at) at (λ r e. subst (λ (n : ℕ). r.first ≢ n) (sym same) (here r (ap (run_at runs) (sym same) ∙ e)))
  | inr other ↦ none at from (let less : at < to = grind (arith, before, other) in less)
]

-- the values of a list of slots are those at its keys
module _ {X : Type 0} where
  abbrev those : List (Option X) → List X
  those slots = filter_map (λ slot. slot) slots

  value_in : (slots : List (Option X)) (key : ℕ) (x : X) → slice_index_or slots key None ≡ Some x → IsIn x (those slots)
  value_in [] key x e = absurd (let no : None ≡ Some x = e in cc)
  value_in (None ∷ rest) zero x e = absurd (let no : None ≡ Some x = e in cc)
  value_in (None ∷ rest) (suc key) x e = value_in rest key x e
  value_in (Some y ∷ rest) zero x e = inl (some_one (Some y) y x refl e)
  value_in (Some y ∷ rest) (suc key) x e = inr (value_in rest key x e)

  in_value : (slots : List (Option X)) (x : X) → IsIn x (those slots) → (key : ℕ) × (slice_index_or slots key None ≡ Some x)
  in_value [] x h = absurd h
  in_value (None ∷ rest) x h = let r = in_value rest x h in (suc r.0, r.1)
  in_value (Some y ∷ rest) x (inl e) = (0, ap Some e)
  in_value (Some y ∷ rest) x (inr h) = let r = in_value rest x h in (suc r.0, r.1)

module _ {V : Type 0} (slots : List ℕ) (runs : Slab (Run V)) (is : AreKept slots runs) where
  -- two runs that have a place are under one key
  pub one_key : (at k l : ℕ) (r s : Run V) → get runs k ≡ Some r → has_place at r ≡ true → get runs l ≡ Some s → has_place at s ≡ true → k ≡ l
  one_key at k l r s h p i q = let same : suc k ≡ suc l = sym (is.has at k r h p) ∙ is.has at l s i q in omega (arith, same)

  pub run_back : (at : ℕ) (r : Run V) → run_at (values runs) at ≡ Some r → (key : ℕ) × (get runs key ≡ Some r) × (has_place at r ≡ true)
  run_back at r h =
      let f = find-some (has_place at) (values runs) r h in
      let v = in_value runs.slots r f.0 in
      (v.0, v.1, f.1)

  pub run_found : (key at : ℕ) (r : Run V) → get runs key ≡ Some r → has_place at r ≡ true → run_at (values runs) at ≡ Some r
  run_found key at r h p = step (run_at (values runs) at) refl (find-IsIn (has_place at) (values runs) r (value_in runs.slots key r h) p)
    where
      step : (o : Option (Run V)) → run_at (values runs) at ≡ o → IsSome (run_at (values runs) at) → run_at (values runs) at ≡ Some r
      step None e some = absurd (let no : IsSome {T = Run V} None = subst IsSome e some in cc)
      step (Some s) e some =
          let b = run_back at s e in
          let same : get runs key ≡ Some s = ap (get runs) (one_key at key b.0 r s h p b.1 b.2) ∙ b.1 in
          e ∙ ap Some (some_one (get runs key) s r same h)

  pub run_none : (at : ℕ) → ((key : ℕ) (r : Run V) → get runs key ≡ Some r → has_place at r ≡ true → ⊥) → run_at (values runs) at ≡ None
  run_none at h = none_by (run_at (values runs) at) (λ r e. let b = run_back at r e in h b.0 r b.1 b.2)

  -- a place without a number has no run
  pub none_at : (at : ℕ) → slot_at slots at ≡ 0 → run_at (values runs) at ≡ None
  none_at at e = run_none at (λ key r h p. absurd (let no : 0 ≡ suc key = sym e ∙ is.has at key r h p in omega (arith, no)))

  pub no_slot : (at : ℕ) → run_at (values runs) at ≡ None → slot_at slots at ≡ 0
  no_slot at none = step (slot_at slots at) refl
    where
      step : (n : ℕ) → slot_at slots at ≡ n → slot_at slots at ≡ 0
      step zero e = e
      step (suc key) e = let n = is.named at key e in absurd (none_some (run_at (values runs) at) n.0 none (run_found key at n.0 n.1 n.2))

  -- what a number tells of its place
  step_none : (at n : ℕ) → slot_at slots at ≡ n → key_of n ≡ None → run_at (values runs) at ≡ None
  step_none at zero e h = none_at at e
  step_none at (suc key) e h = absurd (let no : Some key ≡ None = h in cc)

  pub told_none : (at : ℕ) → key_of (slot_at slots at) ≡ None → run_at (values runs) at ≡ None
  told_none at h = step_none at (slot_at slots at) refl h

  step_some : (at n key : ℕ) → slot_at slots at ≡ n → key_of n ≡ Some key → slot_at slots at ≡ suc key
  step_some at zero key e h = absurd (let no : None ≡ Some key = h in cc)
  step_some at (suc k) key e h = e ∙ ap suc (some_one (Some k) k key refl h)

  pub told_some : (at key : ℕ) → key_of (slot_at slots at) ≡ Some key → (r : Run V) × (get runs key ≡ Some r) × (has_place at r ≡ true)
  told_some at key h = is.named at key (step_some at (slot_at slots at) key refl h)

  pub contains : (at key : ℕ) → key_of (slot_at slots at) ≡ Some key → IsSome (get runs key)
  contains at key h = subst IsSome (sym (told_some at key h).1) refl

  -- the run that is under that key
  pub run_told : (at key : ℕ) (r : Run V) → key_of (slot_at slots at) ≡ Some key → get runs key ≡ Some r → run_at (values runs) at ≡ Some r
  run_told at key r h e =
      let t = told_some at key h in
      run_found key at r e (subst (λ (s : Run V). has_place at s ≡ true) (some_one (get runs key) t.0 r t.1 e) t.2)

  pub told_has : (at key : ℕ) (r : Run V) → key_of (slot_at slots at) ≡ Some key → get runs key ≡ Some r → has_place at r ≡ true
  told_has at key r h e =
      let t = told_some at key h in
      subst (λ (s : Run V). has_place at s ≡ true) (some_one (get runs key) t.0 r t.1 e) t.2

  -- a run is found at its first place
  pub has_first : (key : ℕ) (r : Run V) → get runs key ≡ Some r → has_place r.first r ≡ true
  has_first key r h = in_by r.first r.count r.first (omega arith) (omega (arith, is.some key r h))

  pub run_of_place : (at : ℕ) (r : Run V) → run_at (values runs) at ≡ Some r → IsRunAt (values runs) at r
  run_of_place at r h = let b = run_back at r h in record { has = b.2; whole = λ other p. run_found b.0 other r b.1 p }

  runs_step : (at : ℕ) (o : Option (Run V)) → run_at (values runs) at ≡ o → IfSome o (IsRunAt (values runs) at)
  runs_step at None e = tt
  runs_step at (Some r) e = run_of_place at r e

  pub are_runs : AreRuns (values runs)
  are_runs at = runs_step at (run_at (values runs) at) refl

  -- a run that begins from the place on begins at the other or behind it
  begins_late : (place to : ℕ) → NoneBegins (values runs) place to → (at : ℕ) (s : Run V) → run_at (values runs) at ≡ Some s → place ≤ s.first → to ≤ s.first
  begins_late place to none at s e from =
      let b = run_back at s e in
      let own = run_found b.0 s.first s b.1 (has_first b.0 s b.1) in
      let no_less : s.first < to → ⊥ = λ less. subst (λ (o : Option (Run V)). IfSome o (λ r. r.first ≢ s.first)) own (none s.first from less) refl in
      grind (arith, no_less)

  late_step : (place to : ℕ) → NoneBegins (values runs) place to → (at : ℕ) (o : Option (Run V)) → run_at (values runs) at ≡ o → IfSome o (λ s. place ≤ s.first → to ≤ s.first)
  late_step place to none at None e = tt
  late_step place to none at (Some s) e = λ from. begins_late place to none at s e from

  pub next_some : (place end at : ℕ) (r : Run V) → NoneBegins (values runs) place at → place ≤ at → at < end → run_at (values runs) at ≡ Some r → r.first ≡ at → IsNextRun (values runs) place end (Some r)
  next_some place end at r none from before e same = record {
    there = run_of_place r.first r (ap (run_at (values runs)) same ∙ e);
    from = omega (arith, from, same);
    before = omega (arith, before, same);
    least = λ other. subst (λ (n : ℕ). IfSome (run_at (values runs) other) (λ s. place ≤ s.first → n ≤ s.first)) (sym same) (late_step place at none other (run_at (values runs) other) refl);
  }

  -- all runs begin below the last place
  pub next_none : (place end to : ℕ) → NoneBegins (values runs) place to → (end ≤ to) ⊎ (131072 ≤ to) → IsNextRun (values runs) place end None
  next_none place end to none reached at = step (run_at (values runs) at) refl
    where
      step : (o : Option (Run V)) → run_at (values runs) at ≡ o → IfSome o (λ s. place ≤ s.first → end ≤ s.first)
      step None e = tt
      step (Some s) e = λ from.
          let late = begins_late place to none at s e from in
          let b = run_back at s e in
          elim reached [
            | inl up ↦ omega (arith, late, up)
            | inr past ↦ absurd (omega (arith, late, past, is.small b.0 s b.1, is.some b.0 s b.1))
          ]

-- at first no place has a run
pub kept_zeros : {V : Type 0} (n : ℕ) (slots : List ℕ) (runs : Slab (Run V)) → n ≡ 131072 → slots ≡ replicate n 0 → runs.slots ≡ [] → AreKept slots runs
kept_zeros {V = V} n slots runs all same none = record {
  places = ap length same ∙ length-replicate {A = ℕ} n 0 ∙ all;
  named = λ at key e. absurd (let no : 0 ≡ suc key = sym (zero_at at) ∙ e in omega (arith, no));
  has = λ at key r e p. absurd (nothing key r e);
  some = λ key r e. absurd (nothing key r e);
  small = λ key r e. absurd (nothing key r e);
}
  where
    nothing : (key : ℕ) (r : Run V) → get runs key ≡ Some r → ⊥
    nothing key r e = let no : None ≡ Some r = sym (ap (λ (xs : List (Option (Run V))). slice_index_or xs key None) none) ∙ e in cc

    zero_at : (at : ℕ) → slot_at slots at ≡ 0
    zero_at at = ap (λ (xs : List ℕ). slot_at xs at) same ∙ elim (below_or at n) [
      | inl less ↦ get_or-replicate n at 0 0 less
      | inr past ↦ get_or_past (replicate n 0) at 0 (let long = length-replicate {A = ℕ} n 0 in omega (arith, long, past))
    ]
