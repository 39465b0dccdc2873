-- A run of ports that is parted, of which the part behind gets the end of its own first port.
use Rattle.std.proofs.Common.{◌≡◌, ℕ, ◌+◌, ◌-◌, ◌<◌, ◌≤◌, ◌&&◌, ◌==◌, nat_lt, Bool, true, false, cond, List, Option, Some, None, IfSome, refl, sym, ap, ◌∙◌, subst, arith}
use Rattle.std.specs.Option.{option_map}
use Rattle.std.proofs.lemmas.Bool.{and_parts, and_from, lt-ltb, le-ltb, ltb-false, eqb-true, eq-eqb, cond-true, cond-false}
use Rattle.pcp_base.specs.declared.leases.End.{End}
use Rattle.ordered_index.proofs.Entries.{false_by}
use Rattle.port_spans.specs.declared.runs.Run.{Run}
use Rattle.port_spans.specs.Runs.{has_place, run_at, AreRuns, part_at, with_value}
use Rattle.port_spans.specs.Along.{end_along, end_told, BeginsAt}
use Rattle.port_spans.proofs.RunLemmas.{in_by}
use Rattle.port_spans.proofs.SpotLemmas.{if-some, run_has, run_whole, run_from, run_to, along_twice}

module _ (runs : List (Run End)) (apart : AreRuns runs) (p : ℕ) (r : Run End) (there : run_at runs p ≡ Some r) (inner : r.first ≡ p → ⊥) where
  pub behind : r.first < p
  behind = grind (arith, run_from runs apart p r there, inner)

  abbrev pub last : End
  last = end_along (p - r.first) r.value

  abbrev pub left : Run End
  left = record { first = r.first; count = p - r.first; value = r.value }

  abbrev pub right : Run End
  right = record { first = p; count = r.first + r.count - p; value = last }

  abbrev between_right : Run End
  between_right = record { first = p; count = r.first + r.count - p; value = r.value }

  module _ (between new : List (Run End)) (cut : (at : ℕ) → run_at between at ≡ option_map (part_at p at) (run_at runs at))
      (changed : (at : ℕ) → run_at new at ≡ option_map (with_value p last) (run_at between at)) where
    test : (nat_lt r.first p && has_place p r) ≡ true
    test = and_from _ _ (lt-ltb r.first p behind) (run_has runs apart p r there)

    value_other : (f : ℕ) (x y : Run End) → (f ≡ p → ⊥) → cond (f == p) x y ≡ y
    value_other f x y h = cond-false (f == p) x y (false_by (f == p) (λ t. h (eqb-true f p t)))

    own_step : (b : Bool) → with_value p last (cond b left between_right) ≡ cond b left right
    own_step true = value_other r.first (record left { value = last }) left inner
    own_step false = cond-true (p == p) (record between_right { value = last }) between_right (eq-eqb p p refl)

    pub new_own : (at : ℕ) → has_place at r ≡ true → run_at new at ≡ Some (cond (nat_lt at p) left right)
    new_own at h =
        changed at ∙ ap (option_map (with_value p last)) (cut at ∙ ap (option_map (part_at p at)) (run_whole runs apart p r there at h))
        ∙ ap (λ (t : Bool). Some (with_value p last (cond t (cond (nat_lt at p) left between_right) r))) test
        ∙ ap Some (own_step (nat_lt at p))

    -- what has another place isn't at this one
    apart_from : (at : ℕ) (q : Run End) → run_at runs at ≡ Some q → has_place at r ≡ false → has_place p q ≡ true → ⊥
    apart_from at q own out has =
        let both : Some q ≡ Some r = sym (run_whole runs apart at q own p has) ∙ there in
        let same : q ≡ r = cc in
        let own_has : has_place at r ≡ true = subst (λ (t : Run End). has_place at t ≡ true) same (run_has runs apart at q own) in
        absurd (let no : true ≡ false = sym own_has ∙ out in cc)

    other_step : (at : ℕ) → has_place at r ≡ false → (o : Option (Run End)) → run_at runs at ≡ o → option_map (with_value p last) (option_map (part_at p at) o) ≡ o
    other_step at out None e = refl
    other_step at out (Some q) e =
        let no_cut : (nat_lt q.first p && has_place p q) ≡ false = false_by (nat_lt q.first p && has_place p q) (λ t. apart_from at q e out (and_parts (nat_lt q.first p) (has_place p q) t).1) in
        let from : q.first ≤ at = run_from runs apart at q e in
        let to : at < q.first + q.count = run_to runs apart at q e in
        let own_place : q.first ≡ p → has_place p q ≡ true = λ same. in_by q.first q.count p (omega (arith, same)) (omega (arith, same, from, to)) in
        ap (λ (t : Bool). Some (with_value p last (cond t (cond (nat_lt at p) (record { first = q.first; count = p - q.first; value = q.value }) (record { first = p; count = q.first + q.count - p; value = q.value })) q))) no_cut
        ∙ ap Some (value_other q.first (record q { value = last }) q (λ same. apart_from at q e out (own_place same)))

    pub new_other : (at : ℕ) → has_place at r ≡ false → run_at new at ≡ run_at runs at
    new_other at out = changed at ∙ ap (option_map (with_value p last)) (cut at) ∙ other_step at out (run_at runs at) refl

    told_step : (at : ℕ) (b : Bool) → nat_lt at p ≡ b → end_told at (Some (cond b left right)) ≡ Some (end_along (at - r.first) r.value)
    told_step at true e = refl
    told_step at false e =
        let from : p ≤ at = ltb-false at p e in
        ap Some (along_twice r.value (p - r.first) (at - p) (at - r.first) (omega (arith, from, behind)))

    told_at : (at : ℕ) (t : Bool) → has_place at r ≡ t → end_told at (run_at new at) ≡ end_told at (run_at runs at)
    told_at at true h = ap (end_told at) (new_own at h) ∙ told_step at (nat_lt at p) refl ∙ sym (ap (end_told at) (run_whole runs apart p r there at h))
    told_at at false h = ap (end_told at) (new_other at h)

    pub cut_told : (at : ℕ) → end_told at (run_at new at) ≡ end_told at (run_at runs at)
    cut_told at = told_at at (has_place at r) refl

    pub at_cut : run_at new p ≡ Some right
    at_cut = new_own p (run_has runs apart p r there) ∙ ap (λ (b : Bool). Some (cond b left right)) (le-ltb p p (omega arith))

    pub cut_begins : BeginsAt p new
    cut_begins = subst (λ (o : Option (Run End)). IfSome o (λ q. q.first ≡ p)) (sym at_cut) refl

    others_at : (other : ℕ) (t : Bool) → has_place other r ≡ t → BeginsAt other runs → BeginsAt other new
    others_at other true h begins =
        let start : r.first ≡ other = if-some (λ (q : Run End). q.first ≡ other) (run_at runs other) r (run_whole runs apart p r there other h) begins in
        let before : nat_lt other p ≡ true = lt-ltb other p (omega (arith, start, behind)) in
        subst (λ (o : Option (Run End)). IfSome o (λ q. q.first ≡ other)) (sym (new_own other h ∙ ap (λ (b : Bool). Some (cond b left right)) before)) start
    others_at other false h begins = subst (λ (o : Option (Run End)). IfSome o (λ q. q.first ≡ other)) (sym (new_other other h)) begins

    pub cut_others : (other : ℕ) → BeginsAt other runs → BeginsAt other new
    cut_others other = others_at other (has_place other r) refl
