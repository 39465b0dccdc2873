-- Finite maps from numbers by what they have at each number.
use Rattle.std.proofs.Common.{◌≡◌, ◌≢◌, ℕ, ◌<◌, ◌≤◌, Bool, true, false, cond, Option, None, Some, refl, sym, ap, ◌∙◌, arith, ◌==◌, ltb, ◌⊎◌, inl, inr}
use Rattle.std.specs.Ordering.{nat_cmp, eq_by_cmp}
use Rattle.std.specs.FinMap.{FinMap, get, insert, remove, get-insert, get-remove, same_map, nat_cmp-IsAntisymmetric}
use Rattle.std.specs.Cmp.{nat_cmp_total}
use Rattle.std.proofs.lemmas.Bool.{eq-eqb}
use Rattle.std.proofs.lemmas.Grind.{common_steps}
use Rattle.pcp_base.proofs.OrderTests.{by_tests}

pub eq_by_cmp-nat : (a b : ℕ) → eq_by_cmp nat_cmp a b ≡ (a == b)
eq_by_cmp-nat a b = by_tests (ltb a b) (a == b) (λ less. grind (arith, common_steps))

-- numbers are equal or not
pub same_or_not : (a b : ℕ) → (a ≡ b) ⊎ (a ≢ b)
same_or_not a b = let at : (v : Bool) → (a == b) ≡ v → (a ≡ b) ⊎ (a ≢ b) = λ v. elim v as (λ v. (a == b) ≡ v → (a ≡ b) ⊎ (a ≢ b)) [ true ↦ λ e. inl (grind (arith, common_steps)) | false ↦ λ e. inr (grind (arith, common_steps)) ] in at (a == b) refl

pub below_or_not : (a b : ℕ) → (a < b) ⊎ (b ≤ a)
below_or_not a b = let at : (v : Bool) → ltb a b ≡ v → (a < b) ⊎ (b ≤ a) = λ v. elim v as (λ v. ltb a b ≡ v → (a < b) ⊎ (b ≤ a)) [ true ↦ λ e. inl (grind (arith, common_steps)) | false ↦ λ e. inr (grind (arith, common_steps)) ] in at (ltb a b) refl

pub cond_same : {X : Type 0} (a b : ℕ) (x y : X) → a ≡ b → cond (a == b) x y ≡ x
cond_same a b x y e = ap (λ t. cond t x y) (eq-eqb a b e)

pub cond_other : {X : Type 0} (a b : ℕ) (x y : X) → a ≢ b → cond (a == b) x y ≡ y
cond_other a b x y ne = let e : (a == b) ≡ false = grind (arith, common_steps) in ap (λ t. cond t x y) e

pub both_none : (b : Bool) → cond {A = Option ℕ} b None None ≡ None
both_none true = refl
both_none false = refl

pub get-inserted : (m : FinMap nat_cmp ℕ) (k v q : ℕ) → get (insert m k v) q ≡ cond (q == k) (Some v) (get m q)
get-inserted m k v q = get-insert nat_cmp_total m k v q ∙ ap (λ b. cond b (Some v) (get m q)) (eq_by_cmp-nat q k)

pub get-removed : (m : FinMap nat_cmp ℕ) (k q : ℕ) → get (remove m k) q ≡ cond (q == k) None (get m q)
get-removed m k q = get-remove nat_cmp_total m k q ∙ ap (λ b. cond b None (get m q)) (eq_by_cmp-nat q k)

-- a map that differs at one number alone
pub one_inserted : (m n : FinMap nat_cmp ℕ) (k v : ℕ) → ((q : ℕ) → get n q ≡ cond (q == k) (Some v) (get m q)) → n ≡ insert m k v
one_inserted m n k v is = same_map nat_cmp_total nat_cmp-IsAntisymmetric _ _ (λ q. is q ∙ sym (get-inserted m k v q))

pub one_removed : (m n : FinMap nat_cmp ℕ) (k : ℕ) → ((q : ℕ) → get n q ≡ cond (q == k) None (get m q)) → n ≡ remove m k
one_removed m n k is = same_map nat_cmp_total nat_cmp-IsAntisymmetric _ _ (λ q. is q ∙ sym (get-removed m k q))

-- to remove what isn't there changes nothing
pub none_removed : (m : FinMap nat_cmp ℕ) (k : ℕ) → get m k ≡ None → m ≡ remove m k
none_removed m k none = one_removed m m k (λ q. elim (same_or_not q k) [
  | inl e ↦ ap (get m) e ∙ none ∙ sym (cond_same q k None (get m q) e)
  | inr ne ↦ sym (cond_other q k None (get m q) ne)
])
