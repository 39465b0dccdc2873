-- A run that is parted.
use Rattle.std.proofs.Common.{◌≡◌, ◌≢◌, ℕ, suc, ◌+◌, ◌-◌, ◌<◌, ◌≤◌, ◌&&◌, nat_lt, Bool, true, false, cond, List, length, Option, Some, None, refl, sym, ap, ◌∙◌, subst, inl, inr, arith}
use Rattle.std.specs.Option.{option_map}
use Rattle.std.proofs.lemmas.Bool.{and_parts, and_from}
use Rattle.ordered_index.proofs.EntryLaws.{none_some, some_one}
use Rattle.ordered_index.proofs.Entries.{false_by}
use Rattle.slab.specs.Slab.{Slab, Updates, get, values}
use Rattle.port_spans.specs.declared.runs.Run.{Run}
use Rattle.port_spans.specs.Runs.{has_place, run_at, part_at}
use Rattle.port_spans.specs.Kept.{AreKept, slot_at}
use Rattle.port_spans.proofs.RunLemmas.{same_or, in_from, in_to, in_by, one_key, run_back, run_found, run_none}
use Rattle.port_spans.proofs.ChangeLemmas.{less_test, not_less_test, less_or, one_less}

module _ {V : Type 0} (slots : List ℕ) (runs : Slab (Run V)) (is : AreKept slots runs)
    (r : Run V) (key place : ℕ) (there : get runs key ≡ Some r) (behind : r.first < place) (within : place < r.first + r.count) where
  abbrev start : Run V
  start = record { first = r.first; count = place - r.first; value = r.value }

  abbrev rest : Run V
  rest = record { first = place; count = r.first + r.count - place; value = r.value }

  in_start : (at : ℕ) → has_place at r ≡ true → at < place → has_place at start ≡ true
  in_start at p less = in_by r.first (place - r.first) at (in_from r.first r.count at p) (omega (arith, less, behind))

  in_rest : (at : ℕ) → has_place at r ≡ true → place ≤ at → has_place at rest ≡ true
  in_rest at p past = in_by place (r.first + r.count - place) at past (omega (arith, in_to r.first r.count at p, within))

  start_in : (at : ℕ) → has_place at start ≡ true → has_place at r ≡ true
  start_in at p = in_by r.first r.count at (in_from r.first (place - r.first) at p) (omega (arith, in_to r.first (place - r.first) at p, within, behind))

  rest_in : (at : ℕ) → has_place at rest ≡ true → has_place at r ≡ true
  rest_in at p = in_by r.first r.count at (omega (arith, in_from place (r.first + r.count - place) at p, behind)) (omega (arith, in_to place (r.first + r.count - place) at p, within))

  start_out : (at : ℕ) → has_place at start ≡ true → has_place at rest ≡ false
  start_out at p = false_by (has_place at rest) (λ t. absurd (omega (arith, in_to r.first (place - r.first) at p, in_from place (r.first + r.count - place) at t, behind)))

  module _ (fresh : ℕ) (vacant : get runs fresh ≡ None) (mid new : Slab (Run V)) (put : Updates runs mid fresh (Some rest)) (set : Updates mid new key (Some start))
      (after : List ℕ) (long : length after ≡ length slots) (slot : ℕ) (number : slot ≡ suc fresh)
      (filled : (at : ℕ) → slot_at after at ≡ cond (has_place at rest) slot (slot_at slots at)) where
    not_fresh : (k : ℕ) (s : Run V) → get runs k ≡ Some s → k ≢ fresh
    not_fresh k s h same = none_some (get runs fresh) s vacant (ap (get runs) (sym same) ∙ h)

    at_rest : get new fresh ≡ Some rest
    at_rest = set.others fresh (λ same. not_fresh key r there (sym same)) ∙ put.changed

    at_old : (k : ℕ) → k ≢ key → k ≢ fresh → get new k ≡ get runs k
    at_old k other more = set.others k other ∙ put.others k more

    data Kind (k : ℕ) (s : Run V) : Type 0 where
      is_start : k ≡ key → s ≡ start → Kind k s
      is_rest : k ≡ fresh → s ≡ rest → Kind k s
      is_old : get runs k ≡ Some s → k ≢ key → Kind k s

    kind : (k : ℕ) (s : Run V) → get new k ≡ Some s → Kind k s
    kind k s h = elim (same_or k key) [
      | inl same ↦ is_start same (some_one (get new k) s start h (ap (get new) same ∙ set.changed))
      | inr other ↦ elim (same_or k fresh) [
        | inl same ↦ is_rest same (some_one (get new k) s rest h (ap (get new) same ∙ at_rest))
        | inr more ↦ is_old (sym (at_old k other more) ∙ h) other
      ]
    ]

    slot_rest : (at : ℕ) → has_place at rest ≡ true → slot_at after at ≡ suc fresh
    slot_rest at p = filled at ∙ ap (λ b. cond b slot (slot_at slots at)) p ∙ number

    slot_other : (at : ℕ) → has_place at rest ≡ false → slot_at after at ≡ slot_at slots at
    slot_other at p = filled at ∙ ap (λ b. cond b slot (slot_at slots at)) p

    -- a place of the run that isn't of the part behind is of that before
    start_by : (at : ℕ) → has_place at r ≡ true → has_place at rest ≡ false → has_place at start ≡ true
    start_by at p off = elim (less_or at place) [
      | inl before ↦ in_start at p before
      | inr past ↦ absurd (let both : true ≡ false = sym (in_rest at p past) ∙ off in cc)
    ]

    named_step : (at k : ℕ) (b : Bool) → has_place at rest ≡ b → slot_at after at ≡ suc k → (q : Run V) × (get new k ≡ Some q) × (has_place at q ≡ true)
    named_step at k true p e =
        let same = one_less k fresh (sym e ∙ slot_rest at p) in
        (rest, ap (get new) same ∙ at_rest, p)
    named_step at k false p e =
        let n = is.named at k (sym (slot_other at p) ∙ e) in
        elim (same_or k key) [
          | inl same ↦ (let own : n.0 ≡ r = some_one (get runs key) n.0 r (ap (get runs) (sym same) ∙ n.1) there in
              (start, ap (get new) same ∙ set.changed, start_by at (subst (λ (t : Run V). has_place at t ≡ true) own n.2) p))
          | inr other ↦ (n.0, at_old k other (not_fresh k n.0 n.1) ∙ n.1, n.2)
        ]

    out_rest : (at k : ℕ) (s : Run V) → get runs k ≡ Some s → has_place at s ≡ true → k ≢ key → has_place at rest ≡ false
    out_rest at k s h p other = false_by (has_place at rest) (λ t. other (one_key slots runs is at k key s r h p there (rest_in at t)))

    has_by : (at k : ℕ) (s : Run V) → Kind k s → has_place at s ≡ true → slot_at after at ≡ suc k
    has_by at k s (is_start e f) p =
        let own = subst (λ (t : Run V). has_place at t ≡ true) f p in
        slot_other at (start_out at own) ∙ is.has at key r there (start_in at own) ∙ ap suc (sym e)
    has_by at k s (is_rest e f) p = slot_rest at (subst (λ (t : Run V). has_place at t ≡ true) f p) ∙ ap suc (sym e)
    has_by at k s (is_old h other) p = slot_other at (out_rest at k s h p other) ∙ is.has at k s h p

    some_by : (k : ℕ) (s : Run V) → Kind k s → 1 ≤ s.count
    some_by k s (is_start e f) = let c : s.count ≡ place - r.first = ap (λ (t : Run V). t.count) f in omega (arith, c, behind)
    some_by k s (is_rest e f) = let c : s.count ≡ r.first + r.count - place = ap (λ (t : Run V). t.count) f in omega (arith, c, within)
    some_by k s (is_old h other) = is.some k s h

    small_by : (k : ℕ) (s : Run V) → Kind k s → s.first + s.count ≤ 131072
    small_by k s (is_start e f) =
        let c : s.count ≡ place - r.first = ap (λ (t : Run V). t.count) f in
        let d : s.first ≡ r.first = ap (λ (t : Run V). t.first) f in
        omega (arith, c, d, behind, within, is.small key r there)
    small_by k s (is_rest e f) =
        let c : s.count ≡ r.first + r.count - place = ap (λ (t : Run V). t.count) f in
        let d : s.first ≡ place = ap (λ (t : Run V). t.first) f in
        omega (arith, c, d, within, is.small key r there)
    small_by k s (is_old h other) = is.small k s h

    pub parted : AreKept after new
    parted = record {
      places = long ∙ is.places;
      named = λ at k e. named_step at k (has_place at rest) refl e;
      has = λ at k s h p. has_by at k s (kind k s h) p;
      some = λ k s h. some_by k s (kind k s h);
      small = λ k s h. small_by k s (kind k s h);
    }

    -- a place of a part is one of the run
    in_old : (at k : ℕ) (s : Run V) → Kind k s → has_place at s ≡ true → run_at (values runs) at ≡ None → ⊥
    in_old at k s (is_start e f) p none = none_some (run_at (values runs) at) r none (run_found slots runs is key at r there (start_in at (subst (λ (t : Run V). has_place at t ≡ true) f p)))
    in_old at k s (is_rest e f) p none = none_some (run_at (values runs) at) r none (run_found slots runs is key at r there (rest_in at (subst (λ (t : Run V). has_place at t ≡ true) f p)))
    in_old at k s (is_old h other) p none = none_some (run_at (values runs) at) s none (run_found slots runs is k at s h p)

    own_test : (nat_lt r.first place && has_place place r) ≡ true
    own_test = and_from _ _ (less_test r.first place behind) (in_by r.first r.count place (omega (arith, behind)) within)

    own_parts : (at : ℕ) → has_place at r ≡ true → run_at (values new) at ≡ Some (part_at place at r)
    own_parts at p = elim (less_or at place) [
      | inl before ↦ run_found after new parted key at start set.changed (in_start at p before)
          ∙ ap Some (sym (ap (λ b. cond b (cond (nat_lt at place) start rest) r) own_test ∙ ap (λ b. cond b start rest) (less_test at place before)))
      | inr past ↦ run_found after new parted fresh at rest at_rest (in_rest at p past)
          ∙ ap Some (sym (ap (λ b. cond b (cond (nat_lt at place) start rest) r) own_test ∙ ap (λ b. cond b start rest) (not_less_test at place past)))
    ]

    other_test : (k : ℕ) (q : Run V) → get runs k ≡ Some q → k ≢ key → (nat_lt q.first place && has_place place q) ≡ false
    other_test k q h other = false_by (nat_lt q.first place && has_place place q) (λ t.
        other (one_key slots runs is place k key q r h (and_parts _ _ t).1 there (in_by r.first r.count place (omega (arith, behind)) within)))

    part_step : (at : ℕ) (o : Option (Run V)) → run_at (values runs) at ≡ o → run_at (values new) at ≡ option_map (part_at place at) o
    part_step at None e = run_none after new parted at (λ k s h p. in_old at k s (kind k s h) p e)
    part_step at (Some q) e =
        let b = run_back slots runs is at q e in
        elim (same_or b.0 key) [
          | inl same ↦ (let own : q ≡ r = some_one (get runs key) q r (ap (get runs) (sym same) ∙ b.1) there in
              own_parts at (subst (λ (t : Run V). has_place at t ≡ true) own b.2) ∙ ap (λ (t : Run V). Some (part_at place at t)) (sym own))
          | inr other ↦ run_found after new parted b.0 at q (at_old b.0 other (not_fresh b.0 q b.1) ∙ b.1) b.2
              ∙ ap Some (sym (ap (λ t. cond t (cond (nat_lt at place) (record { first = q.first; count = place - q.first; value = q.value }) (record { first = place; count = q.first + q.count - place; value = q.value })) q) (other_test b.0 q b.1 other)))
        ]

    pub part_told : (at : ℕ) → run_at (values new) at ≡ option_map (part_at place at) (run_at (values runs) at)
    part_told at = part_step at (run_at (values runs) at) refl
