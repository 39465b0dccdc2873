-- Runs after a change: a run that comes, that is parted, that has another value, that goes.
use Rattle.std.specs.Prelude.{◌⊎◌}
use Rattle.std.proofs.Common.{◌≡◌, ◌≢◌, ℕ, suc, ◌+◌, ◌-◌, ◌<◌, ◌≤◌, ◌==◌, ◌&&◌, nat_lt, Bool, true, false, cond, List, length, Option, Some, None, refl, sym, ap, ◌∙◌, subst, inl, inr, arith}
use Rattle.std.specs.Option.{option_map}
use Rattle.std.proofs.lemmas.Bool.{eqb-true, eq-eqb, and_parts}
use Rattle.std.proofs.lemmas.Bool.Decides.{nat_tests}
use Rattle.ordered_index.proofs.EntryLaws.{none_some, some_one}
use Rattle.ordered_index.proofs.Entries.{false_by}
use Rattle.slab.specs.Slab.{Slab, Updates, get, values}
use Rattle.port_spans.specs.declared.runs.Run.{Run}
use Rattle.port_spans.specs.Runs.{has_place, run_at, part_at, with_value, but_from, AreRuns}
use Rattle.port_spans.specs.Kept.{AreKept, slot_at}
use Rattle.port_spans.proofs.SpotLemmas.{run_first, run_whole}
use Rattle.port_spans.proofs.RunLemmas.{same_or, in_from, in_to, in_by, one_key, run_back, run_found, run_none, has_first}

pub less_test : (a b : ℕ) → a < b → nat_lt a b ≡ true
less_test a b h = grind (arith, nat_tests, h)

pub not_less_test : (a b : ℕ) → b ≤ a → nat_lt a b ≡ false
not_less_test a b h = grind (arith, nat_tests, h)

less_from : (a b : ℕ) → nat_lt a b ≡ true → a < b
less_from a b h = grind (arith, nat_tests, h)

pub less_or : (a b : ℕ) → (a < b) ⊎ (b ≤ a)
less_or a b = step (nat_lt a b) refl
  where
    step : (c : Bool) → nat_lt a b ≡ c → (a < b) ⊎ (b ≤ a)
    step true e = inl (less_from a b e)
    step false e = inr (grind (arith, nat_tests, e))

pub one_less : (a b : ℕ) → suc a ≡ suc b → a ≡ b
one_less a b same = omega (arith, same)

-- ---- calls that change nothing

module _ {V : Type 0} (runs : List (Run V)) (apart : AreRuns runs) where
  -- where no run begins
  module _ (first : ℕ) (none : (q : Run V) → run_at runs first ≡ Some q → q.first ≢ first) where
    other_test : (at : ℕ) (q : Run V) → run_at runs at ≡ Some q → (q.first == first) ≡ false
    other_test at q e = false_by (q.first == first) (λ t.
        let same = eqb-true q.first first t in
        none q (ap (run_at runs) (sym same) ∙ run_first runs apart at q e) same)

    unset_step : (value : V) (at : ℕ) (o : Option (Run V)) → run_at runs at ≡ o → o ≡ option_map (with_value first value) o
    unset_step value at None e = refl
    unset_step value at (Some q) e = ap Some (sym (ap (λ t. cond t (record q { value = value }) q) (other_test at q e)))

    pub unset : (value : V) (at : ℕ) → run_at runs at ≡ option_map (with_value first value) (run_at runs at)
    unset value at = unset_step value at (run_at runs at) refl

    untaken_step : (at : ℕ) (o : Option (Run V)) → run_at runs at ≡ o → o ≡ but_from first o
    untaken_step at None e = refl
    untaken_step at (Some q) e = sym (ap (λ t. cond t None (Some q)) (other_test at q e))

    pub untaken : (at : ℕ) → run_at runs at ≡ but_from first (run_at runs at)
    untaken at = untaken_step at (run_at runs at) refl

  -- where no run goes on over a place
  module _ (place : ℕ) (none : (q : Run V) → run_at runs place ≡ Some q → q.first < place → ⊥) where
    uncut_step : (at : ℕ) (o : Option (Run V)) → run_at runs at ≡ o → o ≡ option_map (part_at place at) o
    uncut_step at None e = refl
    uncut_step at (Some q) e =
        let test : (nat_lt q.first place && has_place place q) ≡ false = false_by (nat_lt q.first place && has_place place q)
        (λ t. let p = and_parts _ _ t in none q (run_whole runs apart at q e place p.1) (less_from q.first place p.0)) in
        ap Some (sym (ap (λ t. cond t (cond (nat_lt at place) (record { first = q.first; count = place - q.first; value = q.value }) (record { first = place; count = q.first + q.count - place; value = q.value })) q) test))

    pub uncut : (at : ℕ) → run_at runs at ≡ option_map (part_at place at) (run_at runs at)
    uncut at = uncut_step at (run_at runs at) refl

-- ---- calls that change something

-- more room changes nothing
pub roomier : {V : Type 0} (slots : List ℕ) (runs new : Slab (Run V)) (n : ℕ) → AreKept slots runs → new ≡ record runs { capacity = n } → AreKept slots new
roomier slots runs new n is same = subst (λ (s : Slab (Run _)). AreKept slots s) (sym same) (record {
  places = is.places;
  named = is.named;
  has = is.has;
  some = is.some;
  small = is.small;
})

module _ {V : Type 0} (slots : List ℕ) (runs : Slab (Run V)) (is : AreKept slots runs) (new : Slab (Run V)) (key : ℕ) where
  -- what a key had before another one changed
  kept_key : (x : Option (Run V)) → Updates runs new key x → (k : ℕ) (s : Run V) → get new k ≡ Some s → k ≢ key → get runs k ≡ Some s
  kept_key x u k s h other = sym (u.others k other) ∙ h

  own_key : (x : Option (Run V)) → Updates runs new key x → (k : ℕ) (s : Run V) → get new k ≡ Some s → k ≡ key → x ≡ Some s
  own_key x u k s h same = sym u.changed ∙ ap (get new) (sym same) ∙ h

  module _ (after : List ℕ) (long : length after ≡ length slots) where
    -- a run that comes to places without a value
    module _ (r : Run V) (some : 1 ≤ r.count) (small : r.first + r.count ≤ 131072) (free : (at : ℕ) → has_place at r ≡ true → run_at (values runs) at ≡ None)
        (vacant : get runs key ≡ None) (u : Updates runs new key (Some r)) (slot : ℕ) (number : slot ≡ suc key)
        (filled : (at : ℕ) → slot_at after at ≡ cond (has_place at r) slot (slot_at slots at)) where
      data Comer (k : ℕ) (s : Run V) : Type 0 where
        is_new : k ≡ key → s ≡ r → Comer k s
        is_other : get runs k ≡ Some s → Comer k s

      comer : (k : ℕ) (s : Run V) → get new k ≡ Some s → Comer k s
      comer k s h = elim (same_or k key) [
        | inl same ↦ is_new same (some_one (Some r) s r (own_key (Some r) u k s h same) refl)
        | inr other ↦ is_other (kept_key (Some r) u k s h other)
      ]

      not_new : (k : ℕ) (s : Run V) → get runs k ≡ Some s → k ≢ key
      not_new k s h same = none_some (get runs key) s vacant (ap (get runs) (sym same) ∙ h)

      slot_in : (at : ℕ) → has_place at r ≡ true → slot_at after at ≡ suc key
      slot_in at p = filled at ∙ ap (λ b. cond b slot (slot_at slots at)) p ∙ number

      slot_out : (at : ℕ) → has_place at r ≡ false → slot_at after at ≡ slot_at slots at
      slot_out at p = filled at ∙ ap (λ b. cond b slot (slot_at slots at)) p

      out : (at k : ℕ) (s : Run V) → get runs k ≡ Some s → has_place at s ≡ true → has_place at r ≡ false
      out at k s h p = false_by (has_place at r) (λ t. none_some (run_at (values runs) at) s (free at t) (run_found slots runs is k at s h p))

      named_step : (at k : ℕ) (b : Bool) → has_place at r ≡ b → slot_at after at ≡ suc k → (q : Run V) × (get new k ≡ Some q) × (has_place at q ≡ true)
      named_step at k true p e =
          let same = one_less k key (sym e ∙ slot_in at p) in
          (r, ap (get new) same ∙ u.changed, p)
      named_step at k false p e =
          let n = is.named at k (sym (slot_out at p) ∙ e) in
          (n.0, u.others k (not_new k n.0 n.1) ∙ n.1, n.2)

      has_by : (at k : ℕ) (s : Run V) → Comer k s → has_place at s ≡ true → slot_at after at ≡ suc k
      has_by at k s (is_new e f) p = slot_in at (subst (λ (t : Run V). has_place at t ≡ true) f p) ∙ ap suc (sym e)
      has_by at k s (is_other h) p = slot_out at (out at k s h p) ∙ is.has at k s h p

      some_by : (k : ℕ) (s : Run V) → Comer k s → 1 ≤ s.count
      some_by k s (is_new e f) = subst (λ (t : Run V). 1 ≤ t.count) (sym f) some
      some_by k s (is_other h) = is.some k s h

      small_by : (k : ℕ) (s : Run V) → Comer k s → s.first + s.count ≤ 131072
      small_by k s (is_new e f) = subst (λ (t : Run V). t.first + t.count ≤ 131072) (sym f) small
      small_by k s (is_other h) = is.small k s h

      pub come : AreKept after new
      come = record {
        places = long ∙ is.places;
        named = λ at k e. named_step at k (has_place at r) refl e;
        has = λ at k s h p. has_by at k s (comer k s h) p;
        some = λ k s h. some_by k s (comer k s h);
        small = λ k s h. small_by k s (comer k s h);
      }

      none_by_comer : (at k : ℕ) (s : Run V) → Comer k s → has_place at s ≡ true → has_place at r ≡ false → run_at (values runs) at ≡ None → ⊥
      none_by_comer at k s (is_new e f) p off none = absurd (let both : true ≡ false = sym (subst (λ (t : Run V). has_place at t ≡ true) f p) ∙ off in cc)
      none_by_comer at k s (is_other h) p off none = none_some (run_at (values runs) at) s none (run_found slots runs is k at s h p)

      come_step : (at : ℕ) (b : Bool) (o : Option (Run V)) → has_place at r ≡ b → run_at (values runs) at ≡ o → run_at (values new) at ≡ cond b (Some r) o
      come_step at true o e i = run_found after new come key at r u.changed e
      come_step at false None e i = run_none after new come at (λ k s h p. none_by_comer at k s (comer k s h) p e i)
      come_step at false (Some q) e i =
          let b = run_back slots runs is at q i in
          run_found after new come b.0 at q (u.others b.0 (not_new b.0 q b.1) ∙ b.1) b.2

      pub come_told : (at : ℕ) → run_at (values new) at ≡ cond (has_place at r) (Some r) (run_at (values runs) at)
      come_told at = come_step at (has_place at r) (run_at (values runs) at) refl refl

    -- a run that goes
    module _ (r : Run V) (there : get runs key ≡ Some r) (u : Updates runs new key None)
        (filled : (at : ℕ) → slot_at after at ≡ cond (has_place at r) 0 (slot_at slots at)) where
      left_other : (k : ℕ) (s : Run V) → get new k ≡ Some s → k ≢ key
      left_other k s h same = none_some (get new k) s (ap (get new) same ∙ u.changed) h

      left : (k : ℕ) (s : Run V) → get new k ≡ Some s → get runs k ≡ Some s
      left k s h = kept_key None u k s h (left_other k s h)

      slot_gone : (at : ℕ) → has_place at r ≡ true → slot_at after at ≡ 0
      slot_gone at p = filled at ∙ ap (λ b. cond b 0 (slot_at slots at)) p

      slot_left : (at : ℕ) → has_place at r ≡ false → slot_at after at ≡ slot_at slots at
      slot_left at p = filled at ∙ ap (λ b. cond b 0 (slot_at slots at)) p

      apart_from : (at k : ℕ) (s : Run V) → get runs k ≡ Some s → has_place at s ≡ true → k ≢ key → has_place at r ≡ false
      apart_from at k s h p other = false_by (has_place at r) (λ t. other (one_key slots runs is at k key s r h p there t))

      gone_step : (at k : ℕ) (b : Bool) → has_place at r ≡ b → slot_at after at ≡ suc k → (q : Run V) × (get new k ≡ Some q) × (has_place at q ≡ true)
      gone_step at k true p e = absurd (let no : 0 ≡ suc k = sym (slot_gone at p) ∙ e in omega (arith, no))
      gone_step at k false p e =
          let n = is.named at k (sym (slot_left at p) ∙ e) in
          let other : k ≢ key = λ same. absurd (
          let own : n.0 ≡ r = some_one (get runs key) n.0 r (ap (get runs) (sym same) ∙ n.1) there in
          let no : true ≡ false = sym (subst (λ (t : Run V). has_place at t ≡ true) own n.2) ∙ p in cc) in
          (n.0, u.others k other ∙ n.1, n.2)

      pub gone : AreKept after new
      gone = record {
        places = long ∙ is.places;
        named = λ at k e. gone_step at k (has_place at r) refl e;
        has = λ at k s h p. slot_left at (apart_from at k s (left k s h) p (left_other k s h)) ∙ is.has at k s (left k s h) p;
        some = λ k s h. is.some k s (left k s h);
        small = λ k s h. is.small k s (left k s h);
      }

      module _ (first : ℕ) (begins : r.first ≡ first) where
        taken_step : (at : ℕ) (o : Option (Run V)) → run_at (values runs) at ≡ o → run_at (values new) at ≡ but_from first o
        taken_step at None e = run_none after new gone at (λ k s h p. none_some (run_at (values runs) at) s e (run_found slots runs is k at s (left k s h) p))
        taken_step at (Some q) e =
            let b = run_back slots runs is at q e in
            elim (same_or b.0 key) [
              | inl same ↦ (let own : q ≡ r = some_one (get runs key) q r (ap (get runs) (sym same) ∙ b.1) there in
                  let test : (q.first == first) ≡ true = eq-eqb q.first first (ap (λ (t : Run V). t.first) own ∙ begins) in
                  run_none after new gone at (λ k s h p. left_other k s h (one_key slots runs is at k b.0 s q (left k s h) p b.1 b.2 ∙ same))
                  ∙ sym (ap (λ t. cond t None (Some q)) test))
              | inr other ↦ (let test : (q.first == first) ≡ false = false_by (q.first == first) (λ t.
                  let meets : q.first ≡ r.first = eqb-true q.first first t ∙ sym begins in
                  other (one_key slots runs is q.first b.0 key q r b.1 (has_first slots runs is b.0 q b.1) there (subst (λ (n : ℕ). has_place n r ≡ true) (sym meets) (has_first slots runs is key r there)))) in
                  run_found after new gone b.0 at q (u.others b.0 other ∙ b.1) b.2
                  ∙ sym (ap (λ t. cond t None (Some q)) test))
            ]

        pub gone_told : (at : ℕ) → run_at (values new) at ≡ but_from first (run_at (values runs) at)
        gone_told at = taken_step at (run_at (values runs) at) refl

  -- a run that has another value
  module _ (r : Run V) (value : V) (there : get runs key ≡ Some r) where
    abbrev renewed : Run V
    renewed = record { first = r.first; count = r.count; value = value }

    module _ (u : Updates runs new key (Some renewed)) where
      renewed_is : (k : ℕ) (s : Run V) → get new k ≡ Some s → k ≡ key → s ≡ renewed
      renewed_is k s h same = some_one (Some renewed) s renewed (own_key (Some renewed) u k s h same) refl

      -- there is a run of the same places under the key
      before : (k : ℕ) (s : Run V) → get new k ≡ Some s → (t : Run V) × (get runs k ≡ Some t) × (t.first ≡ s.first) × (t.count ≡ s.count)
      before k s h = elim (same_or k key) [
        | inl same ↦ (let own = sym (renewed_is k s h same) in (r, ap (get runs) same ∙ there, ap (λ (t : Run V). t.first) own, ap (λ (t : Run V). t.count) own))
        | inr other ↦ (s, kept_key (Some renewed) u k s h other, refl, refl)
      ]

      set_named : (at k : ℕ) → slot_at slots at ≡ suc k → (q : Run V) × (get new k ≡ Some q) × (has_place at q ≡ true)
      set_named at k e =
          let n = is.named at k e in
          elim (same_or k key) [
            | inl same ↦ (let own : n.0 ≡ r = some_one (get runs key) n.0 r (ap (get runs) (sym same) ∙ n.1) there in
                (renewed, ap (get new) same ∙ u.changed, subst (λ (t : Run V). has_place at t ≡ true) own n.2))
            | inr other ↦ (n.0, u.others k other ∙ n.1, n.2)
          ]

      same_places : (at : ℕ) (t s : Run V) → t.first ≡ s.first → t.count ≡ s.count → has_place at s ≡ true → has_place at t ≡ true
      same_places at t s first count p =
          in_by t.first t.count at (omega (arith, first, in_from s.first s.count at p)) (omega (arith, first, count, in_to s.first s.count at p))

      pub renewed_kept : AreKept slots new
      renewed_kept = record {
        places = is.places;
        named = set_named;
        has = λ at k s h p. let b = before k s h in is.has at k b.0 b.1 (same_places at b.0 s b.2 b.3 p);
        some = λ k s h. let b = before k s h in omega (arith, is.some k b.0 b.1, b.3);
        small = λ k s h. let b = before k s h in omega (arith, is.small k b.0 b.1, b.2, b.3);
      }

      module _ (first : ℕ) (begins : r.first ≡ first) where
        renew_step : (at : ℕ) (o : Option (Run V)) → run_at (values runs) at ≡ o → run_at (values new) at ≡ option_map (with_value first value) o
        renew_step at None e = run_none slots new renewed_kept at (λ k s h p.
            let b = before k s h in
            none_some (run_at (values runs) at) b.0 e (run_found slots runs is k at b.0 b.1 (same_places at b.0 s b.2 b.3 p)))
        renew_step at (Some q) e =
            let b = run_back slots runs is at q e in
            elim (same_or b.0 key) [
              | inl same ↦ (let own : q ≡ r = some_one (get runs key) q r (ap (get runs) (sym same) ∙ b.1) there in
                  let set : with_value first value r ≡ renewed = ap (λ t. cond t (record r { value = value }) r) (eq-eqb r.first first begins) in
                  run_found slots new renewed_kept key at renewed u.changed (subst (λ (t : Run V). has_place at t ≡ true) own b.2)
                  ∙ ap Some (sym set) ∙ ap (λ (t : Run V). Some (with_value first value t)) (sym own))
              | inr other ↦ (let test : (q.first == first) ≡ false = false_by (q.first == first) (λ t.
                  let meets : q.first ≡ r.first = eqb-true q.first first t ∙ sym begins in
                  other (one_key slots runs is q.first b.0 key q r b.1 (has_first slots runs is b.0 q b.1) there (subst (λ (n : ℕ). has_place n r ≡ true) (sym meets) (has_first slots runs is key r there)))) in
                  run_found slots new renewed_kept b.0 at q (u.others b.0 other ∙ b.1) b.2
                  ∙ ap Some (sym (ap (λ t. cond t (record q { value = value }) q) test)))
            ]

        pub renew_told : (at : ℕ) → run_at (values new) at ≡ option_map (with_value first value) (run_at (values runs) at)
        renew_told at = renew_step at (run_at (values runs) at) refl
