-- The order of the keys, by the places of their endpoints.
use Rattle.std.proofs.Common.{◌≡◌, ℕ, ◌&&◌, true, false, not, refl, sym, ap, ◌∙◌}
use Rattle.std.specs.Ordering.{nat_cmp, ordering_then, is_eq, is_gt, is_le}
use Rattle.std.specs.declared.cmp.Ordering.{Ordering}
use Rattle.std.specs.declared.cmp.Ordering.TheVariants.{Less, Equal, Greater}
use Rattle.std.specs.declared.ops.Bound.TheVariants.{Included, Excluded}
use Rattle.std.specs.Cmp.Lexicographic.{slice_cmp}
use Rattle.std.specs.BTreeMap.Range.{range_contains}
use Rattle.std.proofs.lemmas.Cmp.{tied_itself}
use Rattle.pcp_base.specs.declared.leases.Endpoint.{Endpoint}
use Rattle.ordered_index.specs.Orders.{Place, place_of, place_cmp}
use Rattle.ordered_index.proofs.OrderLaws.{not_gt_first, place_total}
use Rattle.peer_table.specs.Kept.{PeerKey, place_in, key_cmp, IsBound}

then_grouped : (o p q : Ordering) → ordering_then (ordering_then o p) q ≡ ordering_then o (ordering_then p q)
then_grouped Less p q = refl
then_grouped Equal p q = refl
then_grouped Greater p q = refl

-- the order after that of the places
abbrev behind_place : Ordering → PeerKey → PeerKey → Ordering
behind_place o a b = ordering_then (ordering_then (ordering_then o (nat_cmp a.3 b.3)) (slice_cmp nat_cmp a.4 b.4)) (nat_cmp a.5 b.5)

by_place : (a b : PeerKey) → key_cmp a b ≡ behind_place (place_cmp (place_in a) (place_in b)) a b
by_place a b = ap (λ o. behind_place o a b) (then_grouped (slice_cmp nat_cmp a.0 b.0) (nat_cmp a.1 b.1) (nat_cmp a.2 b.2))

-- keys are in the order of their places
pub places_up : (a b : PeerKey) → is_gt (key_cmp a b) ≡ false → is_gt (place_cmp (place_in a) (place_in b)) ≡ false
places_up a b h = not_gt_first _ _ (not_gt_first _ _ (not_gt_first _ _ (ap is_gt (sym (by_place a b)) ∙ h)))

pub up_places : (a b : PeerKey) → place_cmp (place_in a) (place_in b) ≡ Less → is_gt (key_cmp a b) ≡ false
up_places a b h = ap is_gt (by_place a b ∙ ap (λ o. behind_place o a b) h)

past_cases : (o p q : Ordering) → is_gt (ordering_then (ordering_then (ordering_then o (nat_cmp 2 1)) p) q) ≡ false → o ≡ Less
past_cases Less p q h = refl
past_cases Equal p q h = absurd (let no : true ≡ false = h in cc)
past_cases Greater p q h = absurd (let no : true ≡ false = h in cc)

-- a lease's key behind a bound has a later place
pub past_bound : (a b : PeerKey) → a.3 ≡ 2 → b.3 ≡ 1 → is_gt (key_cmp a b) ≡ false → place_cmp (place_in a) (place_in b) ≡ Less
past_bound a b two one h =
    let p = slice_cmp nat_cmp a.4 b.4 in let q = nat_cmp a.5 b.5 in let o = place_cmp (place_in a) (place_in b) in
    past_cases o p q (ap (λ (n : ℕ). is_gt (ordering_then (ordering_then (ordering_then o (nat_cmp n 1)) p) q)) (sym two)
    ∙ ap (λ (n : ℕ). is_gt (ordering_then (ordering_then (ordering_then o (nat_cmp a.3 n)) p) q)) (sym one) ∙ ap is_gt (sym (by_place a b)) ∙ h)

pub within_cases : (o p q r s : Ordering) → (is_le (ordering_then (ordering_then (ordering_then o (nat_cmp 0 1)) p) q) && not (is_le (ordering_then (ordering_then (ordering_then o (nat_cmp 2 1)) r) s))) ≡ is_eq o
within_cases Less p q r s = refl
within_cases Equal p q r s = refl
within_cases Greater p q r s = refl

side_is : (p : Place) (n : ℕ) (a k : PeerKey) → place_in a ≡ p → a.3 ≡ n → k.3 ≡ 1 →
    is_le (key_cmp a k) ≡ is_le (ordering_then (ordering_then (ordering_then (place_cmp p (place_in k)) (nat_cmp n 1)) (slice_cmp nat_cmp a.4 k.4)) (nat_cmp a.5 k.5))
side_is p n a k place side one =
    let r = slice_cmp nat_cmp a.4 k.4 in let s = nat_cmp a.5 k.5 in
    ap is_le (by_place a k) ∙ ap (λ (z : Place). is_le (ordering_then (ordering_then (ordering_then (place_cmp z (place_in k)) (nat_cmp a.3 k.3)) r) s)) place
    ∙ ap (λ (z : ℕ). is_le (ordering_then (ordering_then (ordering_then (place_cmp p (place_in k)) (nat_cmp z k.3)) r) s)) side
    ∙ ap (λ (z : ℕ). is_le (ordering_then (ordering_then (ordering_then (place_cmp p (place_in k)) (nat_cmp n z)) r) s)) one

-- a lease's key between the bounds of an endpoint has its place
pub within_bounds : (e : Endpoint) (lo hi k : PeerKey) → IsBound e 0 lo → IsBound e 2 hi → k.3 ≡ 1 → range_contains key_cmp (Included lo) (Excluded hi) k ≡ is_eq (place_cmp (place_of e) (place_in k))
within_bounds e lo hi k l h one =
    let a = side_is (place_of e) 0 lo k l.place l.side_is one in
    let b = side_is (place_of e) 2 hi k h.place h.side_is one in
    ap (λ t. t && not (is_le (key_cmp hi k))) a ∙ ap (λ t. is_le (ordering_then (ordering_then (ordering_then (place_cmp (place_of e) (place_in k)) (nat_cmp 0 1)) (slice_cmp nat_cmp lo.4 k.4)) (nat_cmp lo.5 k.5)) && not t) b
    ∙ within_cases (place_cmp (place_of e) (place_in k)) _ _ _ _

pub bound_cases : (o : Ordering) (x y : ℕ) (p q : Ordering) → o ≡ Equal → x ≡ 0 → y ≡ 2 → is_gt (ordering_then (ordering_then (ordering_then o (nat_cmp x y)) p) q) ≡ false
bound_cases o x y p q e zero two =
    ap (λ z. is_gt (ordering_then (ordering_then (ordering_then z (nat_cmp x y)) p) q)) e ∙ ap (λ (n : ℕ). is_gt (ordering_then (ordering_then (nat_cmp n y) p) q)) zero
    ∙ ap (λ (n : ℕ). is_gt (ordering_then (ordering_then (nat_cmp 0 n) p) q)) two

pub bounds_forward : (e : Endpoint) (lo hi : PeerKey) → IsBound e 0 lo → IsBound e 2 hi → is_gt (key_cmp lo hi) ≡ false
bounds_forward e lo hi l h =
    ap is_gt (by_place lo hi) ∙ bound_cases (place_cmp (place_in lo) (place_in hi)) lo.3 hi.3 (slice_cmp nat_cmp lo.4 hi.4) (nat_cmp lo.5 hi.5)
    (ap (λ (p : Place). place_cmp p (place_in hi)) (l.place ∙ sym h.place) ∙ tied_itself place_total (place_in hi)) l.side_is h.side_is
