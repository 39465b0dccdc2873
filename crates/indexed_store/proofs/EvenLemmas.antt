-- Which MAP lease owns the ports of a run: one all of them, or none any.
use Rattle.std.proofs.Common.{◌≡◌, ℕ, ◌+◌, ◌<◌, ◌≤◌, nat_le, nat_lt, true, false, List, Option, Some, None, refl, sym, ap, ◌∙◌, subst, arith}
use Rattle.std.proofs.lemmas.Bool.{and_from}
use Rattle.std.proofs.lemmas.Bool.Decides.{nat_tests}
use Rattle.pcp_base.specs.declared.leases.MapLease.{MapLease}
use Rattle.pcp_base.specs.Tables.{Table, same_protocol}
use Rattle.pcp_base.specs.Owners.{owns}
use Rattle.pcp_base.proofs.Members.{IsIn, All-IsIn, find-some, find-none}
use Rattle.pcp_base.proofs.Same.{same_protocol-Decides}
use Rattle.pcp_base.proofs.StageLaws.{unlike}
use Rattle.mapping_table.specs.MapLists.{map_owning}
use Rattle.indexed_store.specs.declared.owning.OwnerRun.{OwnerRun}
use Rattle.indexed_store.specs.Runs.{map_run}
use Rattle.indexed_store.specs.Holding.{IsEven}
use Rattle.indexed_store.specs.Tabled.{AreTabled}
use Rattle.indexed_store.proofs.Uniques.{one-owns}

even_by : (maps : List MapLease) (r : OwnerRun) (o : Option MapLease) → 1 ≤ r.count
    → ((i : ℕ) → i < r.count → map_owning r.first.protocol (r.first.external + i) maps ≡ o) → IsEven maps r
even_by maps r o some are i less =
    let first : r.first.external + 0 ≡ r.first.external = omega arith in
    are i less ∙ sym (are 0 (omega (arith, some))) ∙ ap (λ (n : ℕ). map_owning r.first.protocol n maps) first

owns_along : (l : MapLease) (i : ℕ) → i < l.count → owns l.protocol (l.external + i) l ≡ true
owns_along l i less =
    let same : same_protocol l.protocol l.protocol ≡ true = (same_protocol-Decides l.protocol l.protocol).1 refl in
    let within = owned_there l.external l.count i less in
    and_from _ _ (and_from _ _ same within.0) within.1
  where
    owned_there : (x n i : ℕ) → i < n → (nat_le x (x + i) ≡ true) × (nat_lt (x + i) (x + n) ≡ true)
    owned_there x n i less = (grind (arith, nat_tests), grind (arith, nat_tests, less))

-- a MAP lease among others owns its ports alone
pub even_own : (t : Table) (l : MapLease) → AreTabled t → IsIn l t.maps → 1 ≤ l.count → IsEven t.maps (map_run l)
even_own t l tabled there some = even_by t.maps (map_run l) (Some l) some (λ i less. step i less (map_owning l.protocol (l.external + i) t.maps) refl)
  where
    step : (i : ℕ) → i < l.count → (o : Option MapLease) → map_owning l.protocol (l.external + i) t.maps ≡ o → o ≡ Some l
    step i less None is = absurd (unlike (owns l.protocol (l.external + i) l) (owns_along l i less)
        (All-IsIn (λ x. owns l.protocol (l.external + i) x ≡ false) t.maps l (find-none (owns l.protocol (l.external + i)) t.maps is) there))
    step i less (Some x) is =
        let f = find-some (owns l.protocol (l.external + i)) t.maps x is in
        ap Some (one-owns t l.protocol (l.external + i) tabled x l f.0 there f.1 (owns_along l i less))

-- and where it is none of a part of them, none of these owns its ports
pub even_gone : (t : Table) (l : MapLease) (maps : List MapLease) → AreTabled t → IsIn l t.maps → 1 ≤ l.count → ((x : MapLease) → IsIn x maps → IsIn x t.maps) → (IsIn l maps → ⊥)
    → IsEven maps (map_run l)
even_gone t l maps tabled there some fewer gone = even_by maps (map_run l) None some (λ i less. step i less (map_owning l.protocol (l.external + i) maps) refl)
  where
    step : (i : ℕ) → i < l.count → (o : Option MapLease) → map_owning l.protocol (l.external + i) maps ≡ o → o ≡ None
    step i less None is = refl
    step i less (Some x) is =
        let f = find-some (owns l.protocol (l.external + i)) maps x is in
        let same : x ≡ l = one-owns t l.protocol (l.external + i) tabled x l (fewer x f.0) there f.1 (owns_along l i less) in
        absurd (gone (subst (λ (y : MapLease). IsIn y maps) same f.0))
