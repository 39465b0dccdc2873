-- What a search of a list of pairs finds, of the map that it is seen as.
use Rattle.std.proofs.Common.{◌≡◌, ℕ, Option, Some, None, List, slice_get, sym, ap, ◌∙◌, subst, Contains, IfSome}
use Rattle.std.proofs.lemmas.Option.{slice_get-get_or}
use Rattle.std.specs.Ordering.{nat_cmp}
use Rattle.std.specs.FinMap.{FinMap, get}
use Rattle.expiry_wheel.specs.declared.pair.Pair.{Pair}
use Rattle.expiry_wheel.specs.Pairs.{expiries_of, IdsDiffer}
use Rattle.expiry_wheel.specs.Order.{IsNoLater}
use Rattle.expiry_wheel.proofs.Pairs.{get-expiries_of, expiry_in-at, at-expiry_in}
use Rattle.expiry_wheel.proofs.Next.{IsSoonest}

-- a pair of the list is one of its map
present_in : (pairs : List Pair) (best : Option Pair) → IdsDiffer pairs → IfSome best (Contains pairs) → IfSome best (λ (p : Pair). get (expiries_of pairs) p.id ≡ Some p.expiry)
present_in pairs None differ present = tt
present_in pairs (Some p) differ present =
    let stands : slice_get pairs present.0 ≡ Some p = slice_get-get_or pairs present.0 p present.1 ∙ ap Some present.2 in
    get-expiries_of pairs p.id ∙ expiry_in-at pairs present.0 p differ stands

-- what a search of the list finds is the soonest of its map
soonest_of : (pairs : List Pair) (best : Option Pair) → IdsDiffer pairs → IfSome best (Contains pairs) → ((i : ℕ) → IsNoLater best (slice_get pairs i)) → IsSoonest (expiries_of pairs) best
soonest_of pairs best differ present first = record {
  present = present_in pairs best differ present;
  first = λ id e found. let place = at-expiry_in pairs id e (sym (get-expiries_of pairs id) ∙ found) in subst (IsNoLater best) place.1 (first place.0);
}

pub soonest_seen : (pairs items : List Pair) (view : FinMap nat_cmp ℕ) (best : Option Pair) → pairs ≡ items → expiries_of items ≡ view → IdsDiffer items → IfSome best (Contains pairs) → ((i : ℕ) → IsNoLater best (slice_get pairs i)) → IsSoonest view best
soonest_seen pairs items view best same is differ present first = subst (λ (m : FinMap nat_cmp ℕ). IsSoonest m best) (ap expiries_of same ∙ is) (soonest_of pairs best (subst IdsDiffer (sym same) differ) present first)
