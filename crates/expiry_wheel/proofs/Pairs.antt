-- Lists of pairs whose ids differ, as finite maps from ids to expiries.
use Rattle.std.proofs.Common.{◌≡◌, ◌≢◌, ℕ, suc, zero, cond, Option, None, Some, List, [], ◌∷◌, ◌++◌, map, refl, sym, ap, ◌∙◌, slice_get, slice_set, ◌==◌, inl, inr}
use Rattle.std.specs.Prelude.{remove}
use Rattle.std.specs.Ordering.{nat_cmp}
use Rattle.std.specs.FinMap as fin
use Rattle.std.specs.FinMap.{find, get, get-from_entries}
use Rattle.std.specs.Cmp.{nat_cmp_total}
use Rattle.expiry_wheel.proofs.Maps.{eq_by_cmp-nat, same_or_not, cond_same, cond_other, both_none, one_inserted, one_removed}
use Rattle.expiry_wheel.specs.declared.pair.Pair.{Pair}
use Rattle.expiry_wheel.specs.Pairs.{IdsDiffer, expiry_in, expiries_of}

pub find-pairs : (pairs : List Pair) (q : ℕ) → find nat_cmp q (map (λ (p : Pair). (p.id, p.expiry)) pairs) ≡ expiry_in pairs q
find-pairs [] q = refl
find-pairs (p ∷ pairs) q = ap (λ b. cond b (Some p.expiry) (find nat_cmp q (map (λ (p : Pair). (p.id, p.expiry)) pairs))) (eq_by_cmp-nat q p.id) ∙ ap (λ (o : Option ℕ). cond (q == p.id) (Some p.expiry) o) (find-pairs pairs q)

pub get-expiries_of : (pairs : List Pair) (q : ℕ) → get (expiries_of pairs) q ≡ expiry_in pairs q
get-expiries_of pairs q = get-from_entries nat_cmp_total _ q ∙ find-pairs pairs q

-- where a pair stands, an expiry is found
pub found_at : (pairs : List Pair) (i : ℕ) (p : Pair) → slice_get pairs i ≡ Some p → (e : ℕ) × (expiry_in pairs p.id ≡ Some e)
found_at [] i p at = cc
found_at (r ∷ pairs) zero p at = let e : r ≡ p = cc in (r.expiry, cond_same p.id r.id _ _ (sym (ap (λ (x : Pair). x.id) e)))
found_at (r ∷ pairs) (suc i) p at = elim (same_or_not p.id r.id) [
  | inl e ↦ (r.expiry, cond_same p.id r.id _ _ e)
  | inr ne ↦ let later : (e : ℕ) × (expiry_in pairs p.id ≡ Some e) = found_at pairs i p at in (later.0, cond_other p.id r.id _ _ ne ∙ later.1)
]

-- which is its own, where the ids differ
pub expiry_in-at : (pairs : List Pair) (i : ℕ) (p : Pair) → IdsDiffer pairs → slice_get pairs i ≡ Some p → expiry_in pairs p.id ≡ Some p.expiry
expiry_in-at [] i p differ at = cc
expiry_in-at (r ∷ pairs) zero p differ at = let e : r ≡ p = cc in cond_same p.id r.id _ _ (sym (ap (λ (x : Pair). x.id) e)) ∙ ap (λ (x : Pair). Some x.expiry) e
expiry_in-at (r ∷ pairs) (suc i) p differ at = elim (same_or_not p.id r.id) [
  | inl e ↦ let later : (e : ℕ) × (expiry_in pairs p.id ≡ Some e) = found_at pairs i p at in let none : expiry_in pairs p.id ≡ None = ap (expiry_in pairs) e ∙ differ.0 in cc (later.1, none)
  | inr ne ↦ cond_other p.id r.id _ _ ne ∙ expiry_in-at pairs i p differ.1 at
]

-- what is found stands somewhere
pub at-expiry_in : (pairs : List Pair) (q e : ℕ) → expiry_in pairs q ≡ Some e → (i : ℕ) × (slice_get pairs i ≡ Some (record { expiry = e; id = q }))
at-expiry_in [] q e found = cc
at-expiry_in (r ∷ pairs) q e found = elim (same_or_not q r.id) [
  | inl same ↦ let is : Some r.expiry ≡ Some e = sym (cond_same q r.id _ _ same) ∙ found in let ex : r.expiry ≡ e = cc in (0, ap (λ (x : ℕ × ℕ). Some (record { expiry = x.0; id = x.1 })) (λ i. (ex i, sym same i)))
  | inr ne ↦ let later : (i : ℕ) × (slice_get pairs i ≡ Some (record { expiry = e; id = q })) = at-expiry_in pairs q e (sym (cond_other q r.id _ _ ne) ∙ found) in (suc later.0, later.1)
]

-- where no pair has the id, none is found
pub none_found : (pairs : List Pair) (q : ℕ) → ((i : ℕ) (p : Pair) → slice_get pairs i ≡ Some p → p.id ≢ q) → expiry_in pairs q ≡ None
none_found [] q none = refl
none_found (r ∷ pairs) q none = cond_other q r.id _ _ (λ e. none 0 r refl (sym e)) ∙ none_found pairs q (λ i. none (suc i))

-- the first id is none of the later ones
apart_from_later : (r : Pair) (pairs : List Pair) (i : ℕ) (p : Pair) → IdsDiffer (r ∷ pairs) → slice_get pairs i ≡ Some p → r.id ≢ p.id
apart_from_later r pairs i p differ at e = let none : expiry_in pairs p.id ≡ None = ap (expiry_in pairs) (sym e) ∙ differ.0 in cc (none, expiry_in-at pairs i p differ.1 at)

-- without the pair at an index, its id isn't found, and each other as before
pub expiry_in-remove : (pairs : List Pair) (i : ℕ) (p : Pair) (q : ℕ) → IdsDiffer pairs → slice_get pairs i ≡ Some p → expiry_in (remove pairs i) q ≡ cond (q == p.id) None (expiry_in pairs q)
expiry_in-remove [] i p q differ at = cc
expiry_in-remove (r ∷ pairs) zero p q differ at = let is : r ≡ p = cc in elim (same_or_not q p.id) [
  | inl e ↦ ap (expiry_in pairs) (e ∙ sym (ap (λ (x : Pair). x.id) is)) ∙ differ.0 ∙ sym (cond_same q p.id _ _ e)
  | inr ne ↦ sym (cond_other q p.id _ _ ne ∙ cond_other q r.id _ _ (λ e. ne (e ∙ ap (λ (x : Pair). x.id) is)))
]
expiry_in-remove (r ∷ pairs) (suc i) p q differ at = let apart = apart_from_later r pairs i p differ at in elim (same_or_not q r.id) [
  | inl e ↦ cond_same q r.id _ _ e ∙ sym (cond_other q p.id _ _ (λ e2. apart (sym e ∙ e2)) ∙ cond_same q r.id _ _ e)
  | inr ne ↦ cond_other q r.id _ _ ne ∙ expiry_in-remove pairs i p q differ.1 at ∙ sym (ap (cond (q == p.id) None) (cond_other q r.id _ _ ne))
]

pub IdsDiffer-remove : (pairs : List Pair) (i : ℕ) (p : Pair) → IdsDiffer pairs → slice_get pairs i ≡ Some p → IdsDiffer (remove pairs i)
IdsDiffer-remove [] i p differ at = cc
IdsDiffer-remove (r ∷ pairs) zero p differ at = differ.1
IdsDiffer-remove (r ∷ pairs) (suc i) p differ at = (expiry_in-remove pairs i p r.id differ.1 at ∙ ap (cond (r.id == p.id) None) differ.0 ∙ both_none (r.id == p.id), IdsDiffer-remove pairs i p differ.1 at)

-- one more at the end
absent_further : (r : Pair) (pairs : List Pair) (q : ℕ) → expiry_in (r ∷ pairs) q ≡ None → (q ≢ r.id) × (expiry_in pairs q ≡ None)
absent_further r pairs q none = let apart : q ≢ r.id = (λ e. cc (cond_same q r.id (Some r.expiry) (expiry_in pairs q) e, none)) in (apart, sym (cond_other q r.id _ _ apart) ∙ none)

pub expiry_in-push : (pairs : List Pair) (p : Pair) (q : ℕ) → expiry_in pairs p.id ≡ None → expiry_in (pairs ++ p ∷ []) q ≡ cond (q == p.id) (Some p.expiry) (expiry_in pairs q)
expiry_in-push [] p q none = refl
expiry_in-push (r ∷ pairs) p q none = let absent = absent_further r pairs p.id none in elim (same_or_not q r.id) [
  | inl e ↦ cond_same q r.id _ _ e ∙ sym (cond_other q p.id _ _ (λ e2. absent.0 (sym e2 ∙ e)) ∙ cond_same q r.id _ _ e)
  | inr ne ↦ cond_other q r.id _ _ ne ∙ expiry_in-push pairs p q absent.1 ∙ sym (ap (cond (q == p.id) (Some p.expiry)) (cond_other q r.id _ _ ne))
]

pub IdsDiffer-push : (pairs : List Pair) (p : Pair) → IdsDiffer pairs → expiry_in pairs p.id ≡ None → IdsDiffer (pairs ++ p ∷ [])
IdsDiffer-push [] p differ none = (refl, tt)
IdsDiffer-push (r ∷ pairs) p differ none = let absent = absent_further r pairs p.id none in (expiry_in-push pairs p r.id absent.1 ∙ cond_other r.id p.id _ _ (λ e. absent.0 (sym e)) ∙ differ.0, IdsDiffer-push pairs p differ.1 absent.1)

-- another expiry at an index
pub expiry_in-set : (pairs : List Pair) (i : ℕ) (p : Pair) (e : ℕ) (q : ℕ) → IdsDiffer pairs → slice_get pairs i ≡ Some p → expiry_in (slice_set pairs i (record { expiry = e; id = p.id })) q ≡ cond (q == p.id) (Some e) (expiry_in pairs q)
expiry_in-set [] i p e q differ at = cc
expiry_in-set (r ∷ pairs) zero p e q differ at = let is : r ≡ p = cc in elim (same_or_not q p.id) [
  | inl same ↦ cond_same q p.id _ _ same ∙ sym (cond_same q p.id _ _ same)
  | inr ne ↦ cond_other q p.id _ _ ne ∙ sym (cond_other q p.id _ _ ne ∙ cond_other q r.id _ _ (λ same. ne (same ∙ ap (λ (x : Pair). x.id) is)))
]
expiry_in-set (r ∷ pairs) (suc i) p e q differ at = let apart = apart_from_later r pairs i p differ at in elim (same_or_not q r.id) [
  | inl same ↦ cond_same q r.id _ _ same ∙ sym (cond_other q p.id _ _ (λ e2. apart (sym same ∙ e2)) ∙ cond_same q r.id _ _ same)
  | inr ne ↦ cond_other q r.id _ _ ne ∙ expiry_in-set pairs i p e q differ.1 at ∙ sym (ap (cond (q == p.id) (Some e)) (cond_other q r.id _ _ ne))
]

pub IdsDiffer-set : (pairs : List Pair) (i : ℕ) (p : Pair) (e : ℕ) → IdsDiffer pairs → slice_get pairs i ≡ Some p → IdsDiffer (slice_set pairs i (record { expiry = e; id = p.id }))
IdsDiffer-set [] i p e differ at = cc
IdsDiffer-set (r ∷ pairs) zero p e differ at = let is : r ≡ p = cc in (ap (λ (x : Pair). expiry_in pairs x.id) (sym is) ∙ differ.0, differ.1)
IdsDiffer-set (r ∷ pairs) (suc i) p e differ at = (expiry_in-set pairs i p e r.id differ.1 at ∙ cond_other r.id p.id _ _ (apart_from_later r pairs i p differ at) ∙ differ.0, IdsDiffer-set pairs i p e differ.1 at)

-- the same of the maps
pub expiries-remove : (pairs : List Pair) (i : ℕ) (p : Pair) → IdsDiffer pairs → slice_get pairs i ≡ Some p → expiries_of (remove pairs i) ≡ fin.remove (expiries_of pairs) p.id
expiries-remove pairs i p differ at = one_removed _ _ p.id (λ q. get-expiries_of _ q ∙ expiry_in-remove pairs i p q differ at ∙ ap (cond (q == p.id) None) (sym (get-expiries_of pairs q)))

pub expiries-push : (pairs : List Pair) (p : Pair) → expiry_in pairs p.id ≡ None → expiries_of (pairs ++ p ∷ []) ≡ fin.insert (expiries_of pairs) p.id p.expiry
expiries-push pairs p none = one_inserted _ _ p.id p.expiry (λ q. get-expiries_of _ q ∙ expiry_in-push pairs p q none ∙ ap (cond (q == p.id) (Some p.expiry)) (sym (get-expiries_of pairs q)))

pub expiries-set : (pairs : List Pair) (i : ℕ) (p : Pair) (e : ℕ) → IdsDiffer pairs → slice_get pairs i ≡ Some p → expiries_of (slice_set pairs i (record { expiry = e; id = p.id })) ≡ fin.insert (expiries_of pairs) p.id e
expiries-set pairs i p e differ at = one_inserted _ _ p.id e (λ q. get-expiries_of _ q ∙ expiry_in-set pairs i p e q differ at ∙ ap (cond (q == p.id) (Some e)) (sym (get-expiries_of pairs q)))

-- what the id of a search says
pub present_at : (pairs : List Pair) (i e id : ℕ) → IdsDiffer pairs → slice_get pairs i ≡ Some (record { expiry = e; id = id }) → get (expiries_of pairs) id ≡ Some e
present_at pairs i e id differ at = get-expiries_of pairs id ∙ expiry_in-at pairs i (record { expiry = e; id = id }) differ at

pub absent_for : (pairs : List Pair) (id : ℕ) → ((i : ℕ) (p : Pair) → slice_get pairs i ≡ Some p → p.id ≢ id) → get (expiries_of pairs) id ≡ None
absent_for pairs id none = get-expiries_of pairs id ∙ none_found pairs id none
