-- Sums over the external addresses of a house, of which each is few.
use Rattle.std.proofs.Common.{◌≡◌, ◌∙◌, ℕ, zero, suc, ◌+◌, ◌*◌, ◌<◌, ◌≤◌, Bool, true, false, cond, List, [], ◌∷◌, length, map, take, flat_map, sym, ap, arith, length-append}
use Rattle.std.specs.Prelude.{fold, slice_get, sum, nat_lt}
use Rattle.std.specs.List.{AllByRecursion, range_with_len}
use Rattle.std.specs.Option.{option_map_or}
use Rattle.std.proofs.lemmas.List.{length-map}
use Rattle.std.proofs.Math.Seq.{take-length}
use Rattle.std.proofs.lemmas.List.FromFn.{length-range_with_len}
use Rattle.pcp_base.specs.declared.leases.MapLease.{MapLease}
use Rattle.pcp_base.specs.declared.leases.Owner.{Owner}
use Rattle.pcp_base.specs.Owners.{map_owner, map_owners, owners, peer_owner}
use Rattle.pcp_base.specs.Sound.{Sound}
use Rattle.pcp_base.specs.Tables.{IsMapLease, Table, live}
use Rattle.pcp_base.proofs.Members.{All-filter}
use Rattle.pcp_base.proofs.TableLemmas.{length-fewer}
use Rattle.lease_store.specs.Lookups.{lease_count}
use Rattle.lease_store.specs.OwnerOrder.{in_order, owners_in_order, precedes, with_owner}

-- ---- sums by turns

sum-from : (a : ℕ) (xs : List ℕ) → fold (λ a x. a + x) a xs ≡ a + sum xs
sum-from a [] = omega arith
sum-from a (x ∷ xs) =
    let p : fold (λ a x. a + x) (a + x) xs ≡ a + x + sum xs = sum-from (a + x) xs in
    let q : sum (x ∷ xs) ≡ 0 + x + sum xs = sum-from (0 + x) xs in
    let e : a + x + sum xs ≡ a + (0 + x + sum xs) = omega arith in
    p ∙ e ∙ ap (λ (n : ℕ). a + n) (sym q)

sum-suc : {X : Type 0} (f : X → ℕ) (xs : List X) (i : ℕ) → i < length xs →
    sum (take (suc i) (map f xs)) ≡ sum (take i (map f xs)) + option_map_or f (slice_get xs i) 0
sum-suc f [] i h = absurd (omega (arith, h))
sum-suc f (x ∷ xs) zero h = omega arith
sum-suc f (x ∷ xs) (suc i) h =
    let more = sum (take (suc i) (map f xs)) in
    let few = sum (take i (map f xs)) in
    let one = option_map_or f (slice_get xs i) 0 in
    let r : more ≡ few + one = sum-suc f xs i (omega (arith, h)) in
    let whole : sum (take (suc (suc i)) (map f (x ∷ xs))) ≡ 0 + f x + more = sum-from (0 + f x) (take (suc i) (map f xs)) in
    let part : sum (take (suc i) (map f (x ∷ xs))) ≡ 0 + f x + few = sum-from (0 + f x) (take i (map f xs)) in
    let e : 0 + f x + (few + one) ≡ 0 + f x + few + one = omega arith in
    whole ∙ ap (λ (n : ℕ). 0 + f x + n) r ∙ e ∙ ap (λ (n : ℕ). n + one) (sym part)

pub sum-next : {X : Type 0} (f : X → ℕ) (xs : List X) (i : ℕ) → i < length xs →
    sum (take (i + 1) (map f xs)) ≡ sum (take i (map f xs)) + option_map_or f (slice_get xs i) 0
sum-next f xs i h =
    let one : i + 1 ≡ suc i = omega arith in
    ap (λ (k : ℕ). sum (take k (map f xs))) one ∙ sum-suc f xs i h

pub sum-all : {X : Type 0} (f : X → ℕ) (xs : List X) (n : ℕ) → n ≡ length xs → sum (take n (map f xs)) ≡ sum (map f xs)
sum-all f xs n is = ap (λ k. sum (take k (map f xs))) (is ∙ sym (length-map xs f)) ∙ ap sum (take-length (map f xs))

-- ---- how many leases and owned ports there are

pub few-leases : (t : Table) (m : ℕ) → Sound t → lease_count t m ≤ 32768
few-leases t m sound =
    let maps = length-fewer (λ l. nat_lt m l.expiry) t.maps in
    let peers = length-fewer (λ l. nat_lt m l.expiry) t.peers in
    let few = sound.few in
    omega (arith, maps, peers, few)

shorter-with : (o : Owner) (os : List Owner) → length (with_owner o os) ≤ length os + 1
shorter-with o [] = omega arith
shorter-with o (x ∷ xs) = go (precedes o x) (precedes x o) (shorter-with o xs)
  where
    go : (first second : Bool) → length (with_owner o xs) ≤ length xs + 1 →
        length (cond first (o ∷ x ∷ xs) (cond second (x ∷ with_owner o xs) (x ∷ xs))) ≤ length (x ∷ xs) + 1
    go true second h = omega arith
    go false true h = omega (arith, h)
    go false false h = omega arith

shorter-in_order : (os : List Owner) → length (in_order os) ≤ length os
shorter-in_order [] = omega arith
shorter-in_order (o ∷ os) =
    let step = shorter-with o (in_order os) in
    let rest = shorter-in_order os in
    omega (arith, step, rest)

few-map_owners : (ls : List MapLease) → AllByRecursion IsMapLease ls → length (flat_map map_owners ls) ≤ length ls * 4096
few-map_owners [] all = omega arith
few-map_owners (l ∷ ls) all =
    let here : length (map_owners l) ≡ l.count = length-map (range_with_len 0 l.count) (map_owner l) ∙ length-range_with_len 0 l.count in
    let few = all.0.ports.few in
    let rest = few-map_owners ls all.1 in
    let both = length-append (map_owners l) (flat_map map_owners ls) in
    omega (arith, here, few, rest, both)

pub few-owners : (t : Table) (m : ℕ) → Sound t → length (owners_in_order t m) ≤ 134217728
few-owners t m sound =
    let maps = (live t m).maps in
    let peers = (live t m).peers in
    let shorter = shorter-in_order (owners (live t m)) in
    let whole = length-append (flat_map map_owners maps) (map peer_owner peers) in
    let of_maps = few-map_owners maps (All-filter IsMapLease (λ l. nat_lt m l.expiry) t.maps sound.maps) in
    let of_peers = length-map peers peer_owner in
    let count = few-leases t m sound in
    omega (arith, shorter, whole, of_maps, of_peers, count)
