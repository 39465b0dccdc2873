-- Journals that are told one after the other.
use Rattle.std.proofs.Common.{◌≡◌, ◌⊎◌, inl, inr, ℕ, ◌+◌, ◌<◌, ◌≤◌, zero, suc, List, [], ◌∷◌, ◌++◌, Some, is_some, unwrap_or, length, refl, sym, ap, subst, ◌∙◌, arith, length-append}
use Rattle.std.specs.List.{slice_get}
use Rattle.std.specs.Prelude.{slice_set}
use Rattle.std.proofs.lemmas.Bool.{false≢true}
use Rattle.std.proofs.lemmas.Option.{slice_get_within}
use Rattle.pcp_base.specs.declared.configs.External.{External}
use Rattle.journal_dump.proofs.TurnLemmas.{get_set_same}
use Rattle.watch_readings.specs.declared.readings.Told.{Told}
use Rattle.watch_runs.specs.Looks.{FailsFrom, IsToldFrom}
use Rattle.watch_runs.specs.Runs.{FailsAt}
use Rattle.watch_runs.proofs.LookLemmas.{Left}

same_some : {X : Type 0} (x y : X) → Some x ≡ Some y → x ≡ y
same_some x y same = ap (λ o. unwrap_or o x) same

-- an item of a list to which one more was appended
pub one_more : {X : Type 0} (xs : List X) (x : X) (i : ℕ) (y : X) → slice_get (xs ++ x ∷ []) i ≡ Some y
    → (slice_get xs i ≡ Some y) ⊎ ((i ≡ length xs) × (y ≡ x))
one_more [] x zero y is = inr (refl, sym (same_some x y is))
one_more [] x (suc i) y is = absurd (false≢true (ap is_some is))
one_more (z ∷ zs) x zero y is = inl is
one_more (z ∷ zs) x (suc i) y is = next_more (one_more zs x i y is)
  where
    next_more : (slice_get zs i ≡ Some y) ⊎ ((i ≡ length zs) × (y ≡ x)) → (slice_get zs i ≡ Some y) ⊎ ((suc i ≡ suc (length zs)) × (y ≡ x))
    next_more (inl there) = inl there
    next_more (inr here) = inr (ap suc here.0, here.1)

-- another item stays
pub set_other : {X : Type 0} (xs : List X) (i k : ℕ) (y : X) → (i ≡ k → ⊥) → slice_get (slice_set xs i y) k ≡ slice_get xs k
set_other [] i k y other = refl
set_other (z ∷ zs) zero zero y other = absurd (other refl)
set_other (z ∷ zs) zero (suc k) y other = refl
set_other (z ∷ zs) (suc i) zero y other = refl
set_other (z ∷ zs) (suc i) (suc k) y other = set_other zs i k y (λ same. other (ap suc same))

module _ {L : Type 0} (left : L → Left) (most : ℕ) (externals : List External) (before : List L) where
  -- the journals before this place are told
  pub record AreToldTo (now : List L) (all : List Told) (place : ℕ) : Type 0 where
    pub counted : length all ≡ place
    pub each : (shard : ℕ) (e : External) (old new : L) (told : Told) → slice_get externals shard ≡ Some e → slice_get before shard ≡ Some old
        → slice_get now shard ≡ Some new → slice_get all shard ≡ Some told → IsToldFrom most e shard (left old) (left new) told
    pub untouched : (k : ℕ) → place ≤ k → slice_get now k ≡ slice_get before k

  module _ (now next : List L) (all : List Told) (place : ℕ) (told : Told) (e : External) (old new : L)
      (so : AreToldTo now all place) (external : slice_get externals place ≡ Some e) (was : slice_get now place ≡ Some old)
      (is : next ≡ slice_set now place new) (tells : IsToldFrom most e place (left old) (left new) told) where
    untouched_behind : (k : ℕ) → place + 1 ≤ k → slice_get next k ≡ slice_get before k
    untouched_behind k behind =
        ap (λ xs. slice_get xs k) is ∙ set_other now place k new (λ same. omega (arith, behind, same)) ∙ so.untouched k (omega (arith, behind))

    tells_at : (shard : ℕ) (f : External) (first last : L) (t : Told) → slice_get externals shard ≡ Some f → slice_get before shard ≡ Some first
        → slice_get next shard ≡ Some last → (slice_get all shard ≡ Some t) ⊎ ((shard ≡ length all) × (t ≡ told))
        → IsToldFrom most f shard (left first) (left last) t
    tells_at shard f first last t there began ended (inl told_before) =
        let below : shard < length all = slice_get_within all shard t told_before in
        let other : place ≡ shard → ⊥ = λ same. omega (arith, below, same, so.counted) in
        so.each shard f first last t there began (sym (ap (λ xs. slice_get xs shard) is ∙ set_other now place shard new other) ∙ ended) told_before
    tells_at shard f first last t there began ended (inr here) =
        let at : shard ≡ place = here.0 ∙ so.counted in
        let e_is : e ≡ f = same_some e f (sym external ∙ ap (λ k. slice_get externals k) (sym at) ∙ there) in
        let old_is : old ≡ first = same_some old first (sym was ∙ so.untouched place (omega arith) ∙ ap (λ k. slice_get before k) (sym at) ∙ began) in
        let new_is : new ≡ last = same_some new last (sym (get_set_same now place old new was) ∙ sym (ap (λ xs. slice_get xs place) is) ∙ ap (λ k. slice_get next k) (sym at) ∙ ended) in
        subst (λ x. IsToldFrom most f shard (left first) (left last) x) (sym here.1)
        (subst (λ x. IsToldFrom most f shard (left first) (left x) told) new_is
        (subst (λ x. IsToldFrom most f shard (left x) (left new) told) old_is
        (subst (λ x. IsToldFrom most x shard (left old) (left new) told) e_is
        (subst (λ x. IsToldFrom most e x (left old) (left new) told) (sym at) tells))))

    pub told_more : AreToldTo next (all ++ told ∷ []) (place + 1)
    told_more = record {
      counted = length-append all (told ∷ []) ∙ ap (λ n. n + 1) so.counted;
      each = λ shard f first last t there began ended among. tells_at shard f first last t there began ended (one_more all told shard t among);
      untouched = untouched_behind;
    }

-- the journal at a place couldn't be read
pub fails_at : {L : Type 0} (left : L → Left) (most : ℕ) (before now next : List L) (place shard : ℕ) (old new : L) → place ≡ shard
    → ((k : ℕ) → place ≤ k → slice_get now k ≡ slice_get before k) → slice_get now place ≡ Some old → next ≡ slice_set now place new
    → FailsFrom most (left old) (left new) → FailsAt left most before next shard
fails_at left most before now next place shard old new same untouched was is fails =
    let at : slice_get before place ≡ Some old = sym (untouched place (omega arith)) ∙ was in
    let here : slice_get next place ≡ Some new = ap (λ xs. slice_get xs place) is ∙ get_set_same now place old new was in
    subst (FailsAt left most before next) same (record { old = old; new = new; was = at; is = here; fails = fails })
