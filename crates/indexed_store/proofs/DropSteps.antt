-- What it takes to take leases out, one by one.
use Rattle.std.proofs.Common.{◌≡◌, ℕ, ◌+◌, ◌*◌, ◌<◌, ◌≤◌, ◌&&◌, not, Bool, true, false, cond, List, [], ◌∷◌, filter, length, count_by, Contains, refl, sym, ap, ◌∙◌, subst, inl, inr, arith}
use Rattle.std.specs.List.{list_any}
use Rattle.std.proofs.Math.Nat.{add-mul}
use Rattle.std.proofs.lemmas.Bool.{and_parts, and_from}
use Rattle.std.proofs.lemmas.Nat.{mul-le}
use Rattle.step_count.specs.Levels.{levels}
use Rattle.step_count.specs.Laws.{LevelsGrow}
use Rattle.pcp_base.specs.declared.leases.TheConstants.{MOST_LEASES}
use Rattle.pcp_base.specs.Tables.{Table}
use Rattle.pcp_base.proofs.Members.{IsIn, IsIn-filter, IsIn-from_Contains, Contains-from_IsIn, any-some}
use Rattle.indexed_store.specs.Looks.{most_levels}
use Rattle.indexed_store.specs.Tabled.{AreTabled}
use Rattle.indexed_store.proofs.WayLemmas.{count-cons, count-parts, left_out, tally}

-- ---- the levels of tables

module _ (grow : LevelsGrow) (t : Table) (tabled : AreTabled t) where
  pub maps-most : levels (length t.maps) ≤ most_levels
  maps-most = let few = tabled.few in grow (length t.maps) (MOST_LEASES + 1) (omega (arith, few)) (omega arith)

  pub peers-most : levels (length t.peers) ≤ most_levels
  peers-most = let few = tabled.few in grow (length t.peers) (MOST_LEASES + 1) (omega (arith, few)) (omega arith)

  -- also of one that gets a lease
  pub maps-more : levels (length t.maps + 1) ≤ most_levels
  maps-more = let few = tabled.few in grow (length t.maps + 1) (MOST_LEASES + 1) (omega (arith, few)) (omega arith)

  pub peers-more : levels (length t.peers + 1) ≤ most_levels
  peers-more = let few = tabled.few in grow (length t.peers + 1) (MOST_LEASES + 1) (omega (arith, few)) (omega arith)

-- ---- how many pass a test where those with a key go

not-not : (b : Bool) → b ≡ true → not (not b) ≡ true
not-not true h = refl
not-not false h = h

count-one : {X : Type 0} (f : X → Bool) (xs : List X) (x : X) → IsIn x xs → f x ≡ true → 1 ≤ count_by f xs
count-one f [] x i h = absurd i
count-one f (y ∷ ys) x (inl same) h =
    let all = count-cons f y ys in
    let first : tally (f y) ≡ 1 = ap tally (ap f same ∙ h) in
    omega (arith, all, first)
count-one f (y ∷ ys) x (inr i) h =
    let all = count-cons f y ys in
    let rest = count-one f ys x i h in
    omega (arith, all, rest)

module _ {X : Type 0} (key : X → Bool) (xs ys : List X) (are : ys ≡ filter (λ x. not (key x)) xs) where
  pub gone-from : (x : X) → Contains ys x → Contains xs x
  gone-from x c =
      let kept = filter (λ z. not (key z)) xs in
      Contains-from_IsIn xs x (IsIn-filter (λ z. not (key z)) xs x (IsIn-from_Contains kept x (subst (λ (zs : List X). Contains zs x) are c))).0

  pub count-within : (p : X → Bool) → count_by p ys ≤ count_by p xs
  count-within p =
      let parts = count-parts p (λ x. not (key x)) xs in
      let same : count_by p ys ≡ count_by p (filter (λ x. not (key x)) xs) = ap (count_by p) are in
      omega (arith, parts, same)

  pub count-fewer : (p : X → Bool) (x : X) → IsIn x xs → key x ≡ true → p x ≡ true → count_by p ys + 1 ≤ count_by p xs
  count-fewer p x i k passes =
      let parts = count-parts p (λ z. not (key z)) xs in
      let one = count-one (left_out p (λ z. not (key z))) xs x i (and_from (p x) (not (not (key x))) passes (not-not (key x) k)) in
      let same : count_by p ys ≡ count_by p (filter (λ z. not (key z)) xs) = ap (count_by p) are in
      omega (arith, parts, one, same)

  pub count-any : (p : X → Bool) → list_any (λ x. key x && p x) xs ≡ true → count_by p ys + 1 ≤ count_by p xs
  count-any p some =
      let found = any-some (λ x. key x && p x) xs some in
      let both = and_parts (key found.0) (p found.0) found.2 in
      count-fewer p found.0 found.1 both.0 both.1

-- ---- what each takes

-- one fewer takes its part
pub less-times : (a b n : ℕ) → a + 1 ≤ b → a * n + n ≤ b * n
less-times a b n h =
    let most = mul-le (a + 1) n b n h (omega arith) in
    let parts : (a + 1) * n ≡ a * n + 1 * n = add-mul a 1 n in
    omega (arith, most, parts)

pub within-times : (a b n : ℕ) → a ≤ b → a * n ≤ b * n
within-times a b n h = mul-le a n b n h (omega arith)
