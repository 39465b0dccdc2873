-- Lists of moments, as finite maps from ids to expiries.
use Rattle.std.proofs.Common.{◌≡◌, ◌≢◌, ℕ, zero, suc, ◌+◌, ◌<◌, Bool, true, false, cond, List, [], ◌∷◌, length, Option, None, Some, slice_set, refl, sym, ap, ◌∙◌, arith, ◌==◌, inl, inr}
use Rattle.std.specs.Ordering.{nat_cmp}
use Rattle.std.specs.FinMap.{FinMap, empty, get, get-empty, insert, remove, same_map, nat_cmp-IsAntisymmetric}
use Rattle.std.specs.Cmp.{nat_cmp_total}
use Rattle.std.proofs.lemmas.List.{get_or-set_same, get_or-set_other, get_or_past}
use Rattle.expiry_wheel.specs.declared.TheConstants.{NEVER}
use Rattle.expiry_wheel.specs.Moments.{told, with_expiry, expiries_from, expiries_by, written, kept_at}
use Rattle.expiry_wheel.proofs.Maps.{same_or_not, below_or_not, cond_same, cond_other, get-inserted, one_inserted, one_removed}

same_with : (expiries : FinMap nat_cmp ℕ) (id : ℕ) (expiry : Option ℕ) → get expiries id ≡ None → get (with_expiry expiries id expiry) id ≡ expiry
same_with expiries id None none = none
same_with expiries id (Some expiry) none = get-inserted expiries id expiry id ∙ cond_same id id (Some expiry) (get expiries id) refl

other_with : (expiries : FinMap nat_cmp ℕ) (id : ℕ) (expiry : Option ℕ) (q : ℕ) → q ≢ id → get (with_expiry expiries id expiry) q ≡ get expiries q
other_with expiries id None q ne = refl
other_with expiries id (Some expiry) q ne = get-inserted expiries id expiry q ∙ cond_other q id (Some expiry) (get expiries q) ne

none_before : (moments : List ℕ) (id q : ℕ) → q < id → get (expiries_from id moments) q ≡ None
none_before [] id q low = get-empty nat_cmp q
none_before (moment ∷ moments) id q low = other_with (expiries_from (id + 1) moments) id (told moment) q (λ e. omega (arith, e, low)) ∙ none_before moments (id + 1) q (omega (arith, low))

get-expiries_from : (moments : List ℕ) (id k q : ℕ) → q ≡ id + k → get (expiries_from id moments) q ≡ told (kept_at moments k)
get-expiries_from [] id k q at = get-empty nat_cmp q ∙ sym (ap told (get_or_past [] k NEVER (omega arith)))
get-expiries_from (moment ∷ moments) id zero q at =
    let same : q ≡ id = omega (arith, at) in
    ap (get (expiries_from id (moment ∷ moments))) same ∙ same_with (expiries_from (id + 1) moments) id (told moment) (none_before moments (id + 1) id (omega arith))
get-expiries_from (moment ∷ moments) id (suc k) q at = other_with (expiries_from (id + 1) moments) id (told moment) q (λ e. omega (arith, e, at)) ∙ get-expiries_from moments (id + 1) k q (omega (arith, at))

-- the expiry of an id
pub get-expiries_by : (moments : List ℕ) (id : ℕ) → get (expiries_by moments) id ≡ told (kept_at moments id)
get-expiries_by moments id = get-expiries_from moments 0 id id (omega arith)

-- what a moment stands for
told_some : (moment e : ℕ) (b : Bool) → cond {A = Option ℕ} b None (Some moment) ≡ Some e → moment ≡ e
told_some moment e true is = cc
told_some moment e false is = cc

pub moment_told : (moment e : ℕ) → told moment ≡ Some e → moment ≡ e
moment_told moment e is = told_some moment e (moment == NEVER) is

pub never_told : told NEVER ≡ None
never_told = cond_same NEVER NEVER None (Some NEVER) refl

pub told_moment : (moment : ℕ) → moment ≢ NEVER → told moment ≡ Some moment
told_moment moment ne = cond_other moment NEVER None (Some moment) ne

pub some_moment : (moment e : ℕ) → told moment ≡ Some e → moment ≢ NEVER
some_moment moment e is never = let none : told moment ≡ None = ap told never ∙ never_told in cc (none, is)

-- an id with an expiry has its moment, and a place
pub moment_of : (moments : List ℕ) (view : FinMap nat_cmp ℕ) (id e : ℕ) → expiries_by moments ≡ view → get view id ≡ Some e → kept_at moments id ≡ e
moment_of moments view id e seen found = moment_told (kept_at moments id) e (sym (get-expiries_by moments id) ∙ ap (λ (m : FinMap nat_cmp ℕ). get m id) seen ∙ found)

pub not_never : (moments : List ℕ) (view : FinMap nat_cmp ℕ) (id e : ℕ) → expiries_by moments ≡ view → get view id ≡ Some e → kept_at moments id ≢ NEVER
not_never moments view id e seen found = some_moment (kept_at moments id) e (sym (get-expiries_by moments id) ∙ ap (λ (m : FinMap nat_cmp ℕ). get m id) seen ∙ found)

pub within_moments : (moments : List ℕ) (view : FinMap nat_cmp ℕ) (id e : ℕ) → expiries_by moments ≡ view → get view id ≡ Some e → id < length moments
within_moments moments view id e seen found = elim (below_or_not id (length moments)) [
  | inl within ↦ within
  | inr past ↦ absurd (not_never moments view id e seen found (get_or_past moments id NEVER past))
]

pub expires_at : (moments : List ℕ) (view : FinMap nat_cmp ℕ) (id : ℕ) → expiries_by moments ≡ view → kept_at moments id ≢ NEVER → get view id ≡ Some (kept_at moments id)
expires_at moments view id seen ne = sym (ap (λ (m : FinMap nat_cmp ℕ). get m id) seen) ∙ get-expiries_by moments id ∙ told_moment (kept_at moments id) ne

-- a moment is written
at_set : (moments : List ℕ) (id moment : ℕ) → id < length moments → (q : ℕ) → get (expiries_by (slice_set moments id moment)) q ≡ cond (q == id) (told moment) (get (expiries_by moments) q)
at_set moments id moment within q = get-expiries_by (slice_set moments id moment) q ∙ elim (same_or_not q id) [
  | inl e ↦ ap (λ k. told (kept_at (slice_set moments id moment) k)) e ∙ ap told (get_or-set_same moments id moment NEVER within) ∙ sym (cond_same q id (told moment) (get (expiries_by moments) q) e)
  | inr ne ↦ ap told (get_or-set_other moments id q moment NEVER ne) ∙ sym (get-expiries_by moments q) ∙ sym (cond_other q id (told moment) (get (expiries_by moments) q) ne)
]

pub written_set : (moments : List ℕ) (id moment : ℕ) → id < length moments → expiries_by (slice_set moments id moment) ≡ written (expiries_by moments) id moment
written_set moments id moment within = elim (same_or_not moment NEVER) [
  | inl e ↦
      one_removed _ _ id (λ q. at_set moments id moment within q ∙ ap (λ (o : Option ℕ). cond (q == id) o (get (expiries_by moments) q)) (ap told e ∙ never_told))
      ∙ sym (cond_same moment NEVER (remove (expiries_by moments) id) (insert (expiries_by moments) id moment) e)
  | inr ne ↦
      one_inserted _ _ id moment (λ q. at_set moments id moment within q ∙ ap (λ (o : Option ℕ). cond (q == id) o (get (expiries_by moments) q)) (told_moment moment ne))
      ∙ sym (cond_other moment NEVER (remove (expiries_by moments) id) (insert (expiries_by moments) id moment) ne)
]

-- where each moment is NEVER, there is no expiry
pub expiries_none : (moments : List ℕ) → ((i : ℕ) → kept_at moments i ≡ NEVER) → expiries_by moments ≡ empty
expiries_none moments never = same_map nat_cmp_total nat_cmp-IsAntisymmetric _ _ (λ q. get-expiries_by moments q ∙ ap told (never q) ∙ never_told ∙ sym (get-empty nat_cmp q))
