-- Folded filters are filters that a lease may have, but for their number.
use Rattle.std.proofs.Common.{◌≡◌, ◌≢◌, ℕ, ◌<◌, ◌≤◌, true, false, List, [], ◌∷◌, ◌++◌, length, refl, arith}
use Rattle.std.specs.Prelude.{◌==◌, nat_lt, if◌then◌else◌}
use Rattle.std.specs.List.{AllByRecursion, list_any}
use Rattle.std.proofs.lemmas.Bool.{cond_both, and_from, eqb-false, eq-eqb, ltb-false}
use Rattle.std.proofs.lemmas.Slice.Eq.{bytes_eq-Decides}
use Rattle.pcp_base.specs.declared.leases.TheConstants.{MOST_FILTERS}
use Rattle.pcp_base.specs.declared.leases.Filter.{Filter}
use Rattle.pcp_base.specs.Tables.{EachTwo, HavePrefixes, AreLeaseFilters}
use Rattle.pcp_base.proofs.Members.{All-push, All-weaker, EachTwo-push, any-none}
use Rattle.filter_rules.specs.Filters.{add_filter, fold_filters, same_filter}

abbrev pub AreDifferent : List Filter → Type 0
AreDifferent filters = EachTwo (λ f g. f ≢ g) filters

same_filter-refl : (f : Filter) → same_filter f f ≡ true
same_filter-refl f = and_from _ _ (and_from _ _ (eq-eqb f.prefix f.prefix refl) (eq-eqb f.port f.port refl))
    ((bytes_eq-Decides f.remote.0 f.remote.0).1 refl)

differs : (f g : Filter) → same_filter f g ≡ false → g ≢ f
differs f g h same = let yes : same_filter f g ≡ true = rw same (same_filter-refl f) in cc

some : (n : ℕ) → (n == 0) ≡ false → 0 < n
some n h = let e : n ≡ 0 → ⊥ = eqb-false n 0 h in omega arith

added : (filters : List Filter) (f : Filter) → f.prefix ≤ 128 → AreDifferent filters × HavePrefixes filters →
    AreDifferent (add_filter filters f) × HavePrefixes (add_filter filters f)
added filters f within both =
    cond_both (f.prefix == 0) [] (if list_any (same_filter f) filters then filters else filters ++ f ∷ [])
    (λ fs. AreDifferent fs × HavePrefixes fs) (λ _. (tt, tt)) (λ not_zero.
    cond_both (list_any (same_filter f) filters) filters (filters ++ f ∷ [])
    (λ fs. AreDifferent fs × HavePrefixes fs) (λ _. both) (λ new. (
      EachTwo-push (λ x y. x ≢ y) filters f both.0
          (All-weaker (λ g. same_filter f g ≡ false) (λ g. g ≢ f) (differs f) filters (any-none (same_filter f) filters new)),
      All-push (λ x. (0 < x.prefix) × (x.prefix ≤ 128)) filters f both.1 (some f.prefix not_zero, within),
    )))

pub folded : (old new : List Filter) → AllByRecursion (λ f. f.prefix ≤ 128) new → AreDifferent old × HavePrefixes old →
    AreDifferent (fold_filters old new) × HavePrefixes (fold_filters old new)
folded old [] within both = both
folded old (f ∷ fs) within both = folded (add_filter old f) fs within.1 (added old f within.0 both)

pub folded-filters : (old new : List Filter) → AllByRecursion (λ f. f.prefix ≤ 128) new → AreDifferent old × HavePrefixes old →
    nat_lt MOST_FILTERS (length (fold_filters old new)) ≡ false → AreLeaseFilters (fold_filters old new)
folded-filters old new within both few =
    let parts = folded old new within both in record {
      few = ltb-false MOST_FILTERS (length (fold_filters old new)) few;
      different = parts.0;
      prefixes = parts.1;
    }
