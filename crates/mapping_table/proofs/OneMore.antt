-- Sound leases with one more.
use Rattle.std.proofs.Common.{◌≡◌, ℕ, ◌+◌, ◌<◌, ◌≤◌, Bool, true, false, cond, List, [], ◌∷◌, length, count_by, Option, Some, None, not, refl, sym, ap, ◌∙◌, subst, arith}
use Rattle.std.specs.List.{AllByRecursion, list_any}
use Rattle.std.proofs.lemmas.Bool.{and_from, or_left, or_right}
use Rattle.pcp_base.specs.declared.leases.TheConstants.{MOST_LEASES}
use Rattle.pcp_base.specs.declared.leases.Endpoint.{Endpoint}
use Rattle.pcp_base.specs.declared.leases.MapLease.{MapLease}
use Rattle.pcp_base.specs.Tables.{EachTwo, IsMapLease, covers, first_endpoint, is_map_of}
use Rattle.pcp_base.proofs.Members.{All-weaker, All-both, any-none}
use Rattle.pcp_base.proofs.Puts.{put_All}
use Rattle.pcp_base.proofs.TableLemmas.{covers-first, key-same}
use Rattle.ordered_index.proofs.Entries.{false_by}
use Rattle.ordered_index.proofs.EntryLaws.{count-cons}
use Rattle.ordered_index.proofs.PutCounts.{tally_found, count-put}
use Rattle.mapping_table.specs.MapLists.{map_with_key, meet_inside, meet_outside, overlaps, with_map, AreSeparate, AreSoundMaps}
use Rattle.mapping_table.proofs.Meetings.{separate-flip}
use Rattle.mapping_table.proofs.Separates.{cover_apart}

clash : (b : Bool) → b ≡ true → b ≡ false → ⊥
clash b h k = let no : true ≡ false = sym h ∙ k in cc

all_counted : {X : Type 0} (xs : List X) → count_by (λ _. true) xs ≡ length xs
all_counted [] = refl
all_counted {X} (x ∷ xs) = let a = count-cons (λ (y : X). true) x xs in let rest = all_counted xs in omega (arith, a, rest)

module _ (l : MapLease) where
  abbrev has_key : MapLease → Bool
  has_key = is_map_of (first_endpoint l)

  -- a lease with another key that isn't overlapped is separate
  is_separate : (x : MapLease) → overlaps l x ≡ false → has_key x ≡ false → AreSeparate l x
  is_separate x free other = record {
    inside = false_by (meet_inside l x) (λ t. clash (overlaps l x) (and_from _ _ (ap not other) (or_left _ _ t)) free);
    outside = false_by (meet_outside l x) (λ t. clash (overlaps l x) (and_from _ _ (ap not other) (or_right _ _ t)) free);
  }

  -- behind a lease with the key there is no other
  behind : (x : MapLease) (xs : List MapLease) → IsMapLease x → AllByRecursion IsMapLease xs → AllByRecursion (AreSeparate x) xs → has_key x ≡ true → AllByRecursion (λ y. has_key y ≡ false) xs
  behind x xs is all apart has = All-weaker (λ y. IsMapLease y × AreSeparate x y) (λ y. has_key y ≡ false) (λ y both. false_by (has_key y) (λ t.
      cover_apart (first_endpoint l) x y both.1 (covers_key x is has) (covers_key y both.0 t))) xs (All-both IsMapLease (AreSeparate x) xs all apart)
    where
      covers_key : (y : MapLease) → IsMapLease y → has_key y ≡ true → covers y (first_endpoint l) ≡ true
      covers_key y formed k = subst (λ (z : Endpoint). covers y z ≡ true) (key-same y l k) (covers-first y formed.ports.some)

  separate_step : (x : MapLease) (xs : List MapLease) → AllByRecursion IsMapLease (x ∷ xs) → EachTwo AreSeparate (x ∷ xs) → AllByRecursion (λ y. overlaps l y ≡ false) (x ∷ xs) → EachTwo AreSeparate (with_map l xs) →
      (b : Bool) → has_key x ≡ b → EachTwo AreSeparate (cond b (l ∷ xs) (x ∷ with_map l xs))
  separate_step x xs is apart free rest true t = (
    All-weaker (λ y. (overlaps l y ≡ false) × (has_key y ≡ false)) (AreSeparate l) (λ y both. is_separate y both.0 both.1) xs
        (All-both (λ y. overlaps l y ≡ false) (λ y. has_key y ≡ false) xs free.1 (behind x xs is.0 is.1 apart.0 t)),
    apart.1,
  )
  separate_step x xs is apart free rest false t =
      (put_All (AreSeparate x) has_key l xs (separate-flip l x (is_separate x free.0 t)) apart.0, rest)

  separate_put : (xs : List MapLease) → AllByRecursion IsMapLease xs → EachTwo AreSeparate xs → AllByRecursion (λ x. overlaps l x ≡ false) xs → EachTwo AreSeparate (with_map l xs)
  separate_put [] is apart free = (tt, tt)
  separate_put (x ∷ xs) is apart free = separate_step x xs is apart free (separate_put xs is.1 apart.1 free.1) (has_key x) refl

  few_cases : (o : Option MapLease) (n m : ℕ) → n + tally_found (λ (x : MapLease). true) o ≡ m + 1 → m ≤ MOST_LEASES → (o ≡ None → m < MOST_LEASES) → n ≤ MOST_LEASES
  few_cases None n m sum few room = let less = room refl in let none : n + 0 ≡ m + 1 = sum in omega (arith, none, less)
  few_cases (Some x) n m sum few room = let one : n + 1 ≡ m + 1 = sum in omega (arith, one, few)

  few_put : (ls : List MapLease) → length ls ≤ MOST_LEASES → (map_with_key (first_endpoint l) ls ≡ None → length ls < MOST_LEASES) → length (with_map l ls) ≤ MOST_LEASES
  few_put ls few room =
      let count : count_by (λ (x : MapLease). true) (with_map l ls) + tally_found (λ (x : MapLease). true) (map_with_key (first_endpoint l) ls) ≡ count_by (λ (x : MapLease). true) ls + 1 =
      count-put (λ (x : MapLease). true) has_key l ls in
      let before = all_counted ls in let after = all_counted (with_map l ls) in
      few_cases (map_with_key (first_endpoint l) ls) (length (with_map l ls)) (length ls) (omega (arith, count, before, after)) few room

pub sound_with : (l : MapLease) (ls : List MapLease) → AreSoundMaps ls → IsMapLease l → list_any (overlaps l) ls ≡ false →
    (map_with_key (first_endpoint l) ls ≡ None → length ls < MOST_LEASES) → AreSoundMaps (with_map l ls)
sound_with l ls h is free room = record {
  leases = put_All IsMapLease (is_map_of (first_endpoint l)) l ls is h.leases;
  separate = separate_put l ls h.leases h.separate (any-none (overlaps l) ls free);
  few = few_put l ls h.few room;
}
