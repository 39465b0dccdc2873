-- Each step keeps the rule.
use Rattle.std.proofs.Common.{◌≡◌, ℕ, zero, suc, ◌+◌, ◌/◌, ◌<◌, ◌≤◌, ◌≢◌, Bool, true, false, nat_lt, if◌then◌else◌, ⊎_elim, max, List, [], ◌∷◌, ◌++◌, length, get_or, set, refl, ap, sym, subst, ◌∙◌, arith, length-set, get_or-set_same}
use mathlib.Core.Option.{some, some-injective, some-ne-none}
use mathlib.Core.Logic.{dite}
use native.Mathlib.Decide.{dec_le, ℕ_discrete}
use lib.ListN.{get_elem?}
use Rattle.std.proofs.lemmas.Bool.{ltb-true}
use Rattle.std.proofs.lemmas.List.{set-get_or}
use Rattle.std.proofs.Math.Nat.{div-le_self}
use Rattle.atomic_table.specs.Table.{State, Me, Step, keeps, Allows, Splits, Joins, opening}
use Rattle.atomic_table.proofs.Lists.{at_set, at_snoc, set_here, set_else, set_again, at_longer}
use Rattle.epoch_word.specs.declared.views.WordView.{WordView}
use Rattle.epoch_word.specs.Rule.{IsBelow, first_word_view, keeper_word_view, newcomer_word_view, new_share, shares, HasGreatest, joined_word_view, spent_word_view, TellsRaise, TellsMoment, TellsShare}

at_within : {A : Type 0} (l : List A) (i : ℕ) (a : A) → get_elem? l i ≡ some a → i < length l
at_within [] i a e = absurd (some-ne-none a (sym e))
at_within (x ∷ xs) zero a e = omega arith
at_within (x ∷ xs) (suc i) a e = let r = at_within xs i a e in omega arith

-- at the set view the one, at each other the other
set_each : (views : List WordView) (id top : ℕ) (w : WordView) → ((j : ℕ) (u : WordView) → get_elem? views j ≡ some u → IsBelow top u) → IsBelow top w → (j : ℕ) (u : WordView) → get_elem? (set views id w) j ≡ some u → IsBelow top u
set_each views id top w others mine j u e = ⊎_elim (λ (t : (j ≡ id) × (w ≡ u)). subst (IsBelow top) t.1 mine) (λ (t : (j ≢ id) × (get_elem? views j ≡ some u)). others j u t.1) (at_set views id j w u e)

-- ---- shares

shares_set : (vs : List WordView) (i : ℕ) (v w : WordView) → get_elem? vs i ≡ some v → shares (set vs i w) + v.share ≡ shares vs + w.share
shares_set [] i v w e = absurd (some-ne-none v (sym e))
shares_set (x ∷ xs) zero v w e = let same : x.share ≡ v.share = ap (λ (z : WordView). z.share) (some-injective x v e) in omega arith
shares_set (x ∷ xs) (suc i) v w e = let r = shares_set xs i v w e in omega arith

shares_snoc : (vs : List WordView) (w : WordView) → shares (vs ++ w ∷ []) ≡ shares vs + w.share
shares_snoc [] w = omega arith
shares_snoc (x ∷ xs) w = let r = shares_snoc xs w in omega arith

shares_has : (vs : List WordView) (i : ℕ) (v : WordView) → get_elem? vs i ≡ some v → v.share ≤ shares vs
shares_has [] i v e = absurd (some-ne-none v (sym e))
shares_has (x ∷ xs) zero v e = let same : x.share ≡ v.share = ap (λ (z : WordView). z.share) (some-injective x v e) in omega arith
shares_has (x ∷ xs) (suc i) v e = let r = shares_has xs i v e in omega arith

half_below : (n : ℕ) → 0 < n → n / 2 < n
half_below zero h = absurd (omega (arith, h))
half_below (suc zero) h = omega arith
half_below (suc (suc n)) h = let le = div-le_self (suc n) 2 in grind arith

-- who has a share keeps some of it
pub part_less : (n : ℕ) → 0 < n → new_share n < n
part_less n has = go (nat_lt 8589934592 n) refl
  where
    go : (b : Bool) → nat_lt 8589934592 n ≡ b → (if b then 4294967296 else n / 2) < n
    go true e = let l : 8589934592 < n = ltb-true 8589934592 n e in omega arith
    go false e = half_below n has

part_most : (n : ℕ) → new_share n ≤ n
part_most zero = omega arith
part_most (suc n) = let l = part_less (suc n) (omega arith) in omega (arith, l)

-- ---- who raised the word

abbrev Some_at : ℕ → List WordView → Type 0
Some_at top views = (j : ℕ) × (v : WordView) × (get_elem? views j ≡ some v) × (v.raised ≡ top) × (0 < v.share)

some_set : (views : List WordView) (id top : ℕ) (v w : WordView) → get_elem? views id ≡ some v → (v.raised ≡ top → w.raised ≡ top) → (0 < v.share → 0 < w.share) → Some_at top views → Some_at top (set views id w)
some_set views id top v w at goes keeps_some (j, u, there, is, has) = dite (ℕ_discrete j id)
    (λ e. let same : u ≡ v = some-injective u v (sym there ∙ (ap (get_elem? views) e ∙ at)) in (id, w, set_here views id w (at_within views id v at), goes (ap (λ (z : WordView). z.raised) (sym same) ∙ is), keeps_some (subst (λ (z : WordView). 0 < z.share) same has)))
    (λ ne. (j, u, set_else views id j w ne ∙ there, is, has))

module _ {S : Type 0} (first : ℕ) where
  abbrev R : State S WordView → Type 0
  R = HasGreatest first

  -- the word is raised
  pub raises : (slots id k : ℕ) (me : Me S WordView) (st : Step S) → st.first ≡ k → k < 1099511627776 → 0 < me.0.share → Allows R slots id me 0 (λ n. max n k) (TellsRaise st me)
  raises slots id k me st is small share s r _ at _ = (w, keeps, tt, record { wide = length-set s.words 0 top ∙ r.wide; small = subst (λ (z : ℕ). z < 1099511627776) (sym now) (let a = r.small in omega arith); some_view = subst (λ (z : ℕ). Some_at z (set s.views id w)) (sym now) someone; each = each; low = subst (λ (z : ℕ). first ≤ z) (sym now) (let a = r.low in omega arith); whole = whole }, refl)
    where
      v : WordView
      v = me.0

      n : ℕ
      n = get_or s.words 0 0

      top : ℕ
      top = max n k

      w : WordView
      w = record v { raised = max v.raised st.first }

      whole : shares (set s.views id w) ≡ 18446744073709551615
      whole = let a = shares_set s.views id v w at in let b : shares s.views ≡ 18446744073709551615 = r.whole in omega arith

      now : get_or (set s.words 0 top) 0 0 ≡ top
      now = get_or-set_same s.words 0 top 0 (let a = r.wide in omega arith)

      mine : IsBelow n v
      mine = r.each id v at

      each : (j : ℕ) (u : WordView) → get_elem? (set s.views id w) j ≡ some u → IsBelow (get_or (set s.words 0 top) 0 0) u
      each = subst (λ (z : ℕ). (j : ℕ) (u : WordView) → get_elem? (set s.views id w) j ≡ some u → IsBelow z u) (sym now)
          (set_each s.views id top w (λ j u e. let a = r.each j u e in let b : u.raised ≤ n = a.raised in let c : u.heard ≤ n = a.heard in record { raised = omega arith; heard = omega arith }) (let b : v.raised ≤ n = mine.raised in let c : v.heard ≤ n = mine.heard in record { raised = omega arith; heard = omega arith }))

      someone : Some_at top (set s.views id w)
      someone = dite (dec_le k n)
          (λ le. subst (λ (z : ℕ). Some_at z (set s.views id w)) (let a : n ≡ top = omega arith in a) (some_set s.views id n v w at (λ e. let b : v.raised ≡ n = e in omega arith) (λ h. h) r.some_view))
          (λ gt. (id, w, set_here s.views id w (at_within s.views id v at), (let b : v.raised ≤ n = mine.raised in omega arith), share))

  -- the word is told
  pub tells : (slots id : ℕ) (me : Me S WordView) (st : Step S) → Allows R slots id me 0 (λ n. n) (TellsMoment st me)
  tells slots id me st s r _ at _ =
      let v : WordView = me.0 in
      let n : ℕ = get_or s.words 0 0 in
      let w : WordView = record v { heard = n; asked = v.asked + 1 } in
      let a = shares_set s.views id v w at in
      let b : shares s.views ≡ 18446744073709551615 = r.whole in
      let mine = r.each id v at in (
        w,
        keeps,
        tt,
        subst (λ (ws : List ℕ). R record { words = ws; homes = s.homes; views = set s.views id w }) (sym (set-get_or s.words 0 0))
            record { wide = r.wide; small = r.small; some_view = some_set s.views id n v w at (λ e. e) (λ h. h) r.some_view; each = set_each s.views id n w r.each record { raised = mine.raised; heard = omega arith }; low = r.low; whole = omega arith },
        (refl, record { small = r.small; below = mine }),
      )

  -- the share is weighed
  pub weighs : (slots id : ℕ) (me : Me S WordView) (st : Step S) → Allows R slots id me 0 (λ n. n) (TellsShare st me)
  weighs slots id me st s r _ at _ =
      let v : WordView = me.0 in
      let most : v.share ≤ shares s.views = shares_has s.views id v at in
      let b : shares s.views ≡ 18446744073709551615 = r.whole in (
        v,
        keeps,
        tt,
        subst (λ (ws : List ℕ). R record { words = ws; homes = s.homes; views = set s.views id v }) (sym (set-get_or s.words 0 0))
            (subst (λ (views : List WordView). R record { words = s.words; homes = s.homes; views = views }) (sym (set_again s.views id v at)) r),
        (refl, omega arith),
      )

  pub splits : (id : ℕ) (v : WordView) → Splits R id v (keeper_word_view v) (newcomer_word_view v)
  splits id v s r at = record {
    wide = r.wide;
    small = r.small;
    some_view = (someone.0, someone.1, at_longer views (u ∷ []) someone.0 someone.1 someone.2, someone.3, someone.4);
    each = λ j x e. ⊎_elim (λ (was : get_elem? views j ≡ some x). set_each s.views id n w r.each (record { raised = mine.raised; heard = mine.heard }) j x was) (λ (is : u ≡ x). subst (IsBelow n) is (record { raised = mine.raised; heard = mine.heard })) (at_snoc views u x j e);
    low = r.low;
    whole = let a = shares_set s.views id v w at in let b : shares s.views ≡ 18446744073709551615 = r.whole in let c = shares_snoc views u in let d = part_most v.share in omega arith;
  }
    where
      n : ℕ
      n = get_or s.words 0 0

      w : WordView
      w = keeper_word_view v

      u : WordView
      u = newcomer_word_view v

      views : List WordView
      views = set s.views id w

      mine : IsBelow n v
      mine = r.each id v at

      someone : Some_at n views
      someone = some_set s.views id n v w at (λ e. e) (λ has. let l = part_less v.share has in omega (arith, l)) r.some_view

  pub joins : (id : ℕ) (v : WordView) (other : ℕ) (u : WordView) → Joins R id v other u (joined_word_view v u) spent_word_view
  joins id v other u s r at apart there = record {
    wide = r.wide;
    small = r.small;
    some_view = someone;
    each = set_each (set s.views id w) other n spent_word_view (set_each s.views id n w r.each (let a : v.raised ≤ n = mine.raised in let b : v.heard ≤ n = mine.heard in let c : u.raised ≤ n = theirs.raised in let d : u.heard ≤ n = theirs.heard in record { raised = omega arith; heard = omega arith })) record { raised = omega arith; heard = omega arith };
    low = r.low;
    whole = whole;
  }
    where
      n : ℕ
      n = get_or s.words 0 0

      w : WordView
      w = joined_word_view v u

      at_other : get_elem? s.views other ≡ some u
      at_other = sym (set_else s.views id other w apart) ∙ there

      mine : IsBelow n v
      mine = r.each id v at

      theirs : IsBelow n u
      theirs = r.each other u at_other

      whole : shares (set (set s.views id w) other spent_word_view) ≡ 18446744073709551615
      whole =
          let a = shares_set s.views id v w at in
          let b = shares_set (set s.views id w) other u spent_word_view there in
          let c : shares s.views ≡ 18446744073709551615 = r.whole in
          omega arith

      here : w.raised ≡ n → 0 < w.share → Some_at n (set (set s.views id w) other spent_word_view)
      here e has = (id, w, set_else (set s.views id w) other id spent_word_view (λ i. apart (sym i)) ∙ set_here s.views id w (at_within s.views id v at), e, has)

      someone : Some_at n (set (set s.views id w) other spent_word_view)
      someone =
          let j : ℕ = r.some_view.0 in
          let x : WordView = r.some_view.1 in
          let top : x.raised ≡ n = r.some_view.3 in
          let a : v.raised ≤ n = mine.raised in
          let c : u.raised ≤ n = theirs.raised in
          let has : 0 < x.share = r.some_view.4 in
          dite (ℕ_discrete j other)
          (λ e. let same : x ≡ u = some-injective x u (sym r.some_view.2 ∙ (ap (get_elem? s.views) e ∙ at_other)) in let d : u.raised ≡ n = ap (λ (z : WordView). z.raised) (sym same) ∙ top in let k : 0 < u.share = subst (λ (z : WordView). 0 < z.share) same has in here (omega arith) (omega arith))
          (λ ne. dite (ℕ_discrete j id)
          (λ e. let same : x ≡ v = some-injective x v (sym r.some_view.2 ∙ (ap (get_elem? s.views) e ∙ at)) in let d : v.raised ≡ n = ap (λ (z : WordView). z.raised) (sym same) ∙ top in let k : 0 < v.share = subst (λ (z : WordView). 0 < z.share) same has in here (omega arith) (omega arith))
          (λ ne'. (j, x, set_else (set s.views id w) other j spent_word_view ne ∙ (set_else s.views id j w ne' ∙ r.some_view.2), top, has)))

  pub starts : first < 1099511627776 → R (opening (first ∷ []) [] (first_word_view first))
  starts small = record { wide = refl; small = small; some_view = (0, first_word_view first, refl, refl, omega arith); whole = refl; each = each; low = (let a : first ≤ first = omega arith in a) }
    where
      each : (j : ℕ) (v : WordView) → get_elem? (first_word_view first ∷ []) j ≡ some v → IsBelow first v
      each zero v e = subst (IsBelow first) (some-injective (first_word_view first) v e) record { raised = (let a : first ≤ first = omega arith in a); heard = (let a : first ≤ first = omega arith in a) }
      each (suc j) v e = absurd (some-ne-none v (sym e))
