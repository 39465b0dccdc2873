-- Entries that mirror those of the leases, after one came, changed or went.
use Rattle.std.proofs.Common.{◌≡◌, ℕ, ◌<◌, ◌&&◌, ◌==◌, Bool, true, false, cond, List, Some, None, refl, sym, ap, ◌∙◌, subst, arith, count_by}
use Rattle.std.specs.List.Sorted.{IsStrictlySortedBy}
use Rattle.std.specs.Map.{lookup, set_value, remove_entry, keys_of}
use Rattle.std.specs.Ordering.{nat_cmp}
use Rattle.std.specs.declared.cmp.Ordering.{Ordering}
use Rattle.std.specs.Cmp.{IsTotalOrder, nat_cmp_total}
use Rattle.std.specs.BTreeMap.{BTreeMap, IsOrdered, get, is_at, insert_entry}
use Rattle.std.proofs.lemmas.Bool.{and_parts, and_from, eqb-true}
use Rattle.std.proofs.lemmas.Map.Lookups.{CmpEqualImpliesEq, exact_unsigned}
use Rattle.std.proofs.lemmas.Map.Views.{btree_map_get_iff}
use Rattle.pcp_base.proofs.Members.{IsIn, IsIn-from_Contains, Contains-from_IsIn}
use Rattle.ordered_index.specs.MapSteps.{without_other}
use Rattle.ordered_index.specs.Kept.{Mirrors}
use Rattle.ordered_index.proofs.Entries.{same_number}
use Rattle.ordered_index.proofs.OrderLaws.{at_exact}
use Rattle.ordered_index.proofs.EntryLaws.{tally, key-self, count-some, some-counted, count-inserted, count-removed, count-set, inserted-same, lookup-inserted}

-- an entry of a map is what the map has under its key
pub entry-at : {K V : Type 0} {R : K → K → Ordering} → IsTotalOrder R → CmpEqualImpliesEq R → (m : BTreeMap K V) → IsOrdered R m → (k : K) (v : V) → IsIn (k, v) m.entries → get R m k ≡ Some v
entry-at o exact m ordered k v h = (btree_map_get_iff o exact m ordered k v).1 (Contains-from_IsIn m.entries (k, v) h)

pub at-entry : {K V : Type 0} {R : K → K → Ordering} → IsTotalOrder R → CmpEqualImpliesEq R → (m : BTreeMap K V) → IsOrdered R m → (k : K) (v : V) → get R m k ≡ Some v → IsIn (k, v) m.entries
at-entry o exact m ordered k v h = IsIn-from_Contains m.entries (k, v) ((btree_map_get_iff o exact m ordered k v).0 h)

module _ {A B : Type 0} (image : A → B) (xs : List A) (bs : List B) (h : Mirrors image xs bs) where
  pub mirrored-to : (test : B → Bool) (a : A) → IsIn a xs → test (image a) ≡ true → (b : B) × IsIn b bs × (test b ≡ true)
  mirrored-to test a i t = some-counted test bs (subst (λ n. 0 < n) (sym (h test)) (count-some (λ x. test (image x)) xs a i t))

  pub mirrored-from : (test : B → Bool) (b : B) → IsIn b bs → test b ≡ true → (a : A) × IsIn a xs × (test (image a) ≡ true)
  mirrored-from test b i t = some-counted (λ x. test (image x)) xs (subst (λ n. 0 < n) (h test) (count-some test bs b i t))

module _ {L K V : Type 0} {R : K → K → Ordering} (o : IsTotalOrder R) (exact : CmpEqualImpliesEq R) (image : ℕ × L → K × V)
    (ls : List (ℕ × L)) (es : List (K × V)) (h : Mirrors image ls es) (n : ℕ) where
  pub mirrors-inserted : (l : L) (k : K) (v : V) → image (n, l) ≡ (k, v) → lookup (is_at (nat_cmp n)) ls ≡ None → lookup (is_at (R k)) es ≡ None →
      Mirrors image (insert_entry nat_cmp ls n l) (insert_entry R es k v)
  mirrors-inserted l k v is free_number free_key test =
      let a = count-inserted o k test v es free_key in
      let b = count-inserted nat_cmp_total n (λ x. test (image x)) l ls free_number in
      let before = h test in
      let same : tally (test (image (n, l))) ≡ tally (test (k, v)) = ap (λ z. tally (test z)) is in
      omega (arith, a, b, before, same)

  pub mirrors-removed : (l : L) (k : K) (v : V) → image (n, l) ≡ (k, v) → lookup (is_at (nat_cmp n)) ls ≡ Some l → lookup (is_at (R k)) es ≡ Some v →
      Mirrors image (remove_entry (is_at (nat_cmp n)) ls) (remove_entry (is_at (R k)) es)
  mirrors-removed l k v is at_number at_k test =
      let a = count-removed o k test exact v es at_k in
      let b = count-removed nat_cmp_total n (λ x. test (image x)) exact_unsigned l ls at_number in
      let before = h test in
      let same : tally (test (image (n, l))) ≡ tally (test (k, v)) = ap (λ z. tally (test z)) is in
      omega (arith, a, b, before, same)

  moved_step : (x l : L) (from to : K) (v : V) (b : Bool) → is_at (R from) to ≡ b → image (n, x) ≡ (from, v) → image (n, l) ≡ (to, v) → IsStrictlySortedBy R (keys_of es) →
      lookup (is_at (nat_cmp n)) ls ≡ Some x → lookup (is_at (R from)) es ≡ Some v → (b ≡ false → lookup (is_at (R to)) es ≡ None) →
      Mirrors image (set_value (is_at (nat_cmp n)) ls l) (cond b (insert_entry R es to v) (remove_entry (is_at (R from)) (insert_entry R es to v)))
  moved_step x l from to v true e before after sorted at_number at_from free test =
      let same : from ≡ to = at_exact exact from to e in
      let there : lookup (is_at (R to)) es ≡ Some v = ap (λ z. lookup (is_at (R z)) es) (sym same) ∙ at_from in
      let stays : count_by test (insert_entry R es to v) ≡ count_by test es = ap (count_by test) (inserted-same o to v es sorted there) in
      let b = count-set nat_cmp_total n (λ z. test (image z)) exact_unsigned x l ls at_number in
      let old = h test in
      let one : tally (test (image (n, x))) ≡ tally (test (image (n, l))) = ap (λ z. tally (test z)) (before ∙ ap (λ z. (z, v)) same ∙ sym after) in
      omega (arith, stays, b, old, one)
  moved_step x l from to v false e before after sorted at_number at_from free test =
      let stays : lookup (is_at (R from)) (insert_entry R es to v) ≡ Some v = lookup-inserted o to exact from v es e ∙ at_from in
      let less = count-removed o from test exact v (insert_entry R es to v) stays in
      let more = count-inserted o to test v es (free refl) in
      let b = count-set nat_cmp_total n (λ z. test (image z)) exact_unsigned x l ls at_number in
      let old = h test in
      let first : tally (test (image (n, x))) ≡ tally (test (from, v)) = ap (λ z. tally (test z)) before in
      let second : tally (test (image (n, l))) ≡ tally (test (to, v)) = ap (λ z. tally (test z)) after in
      omega (arith, less, more, b, old, first, second)

  pub mirrors-moved : (x l : L) (from to : K) (v : V) → image (n, x) ≡ (from, v) → image (n, l) ≡ (to, v) → IsStrictlySortedBy R (keys_of es) →
      lookup (is_at (nat_cmp n)) ls ≡ Some x → lookup (is_at (R from)) es ≡ Some v → (is_at (R from) to ≡ false → lookup (is_at (R to)) es ≡ None) →
      Mirrors image (set_value (is_at (nat_cmp n)) ls l) (without_other R from to (insert_entry R es to v))
  mirrors-moved x l from to v before after sorted at_number at_from free =
      moved_step x l from to v (is_at (R from) to) refl before after sorted at_number at_from free

-- numbers under keys
module _ {L K : Type 0} {R : K → K → Ordering} (o : IsTotalOrder R) (exact : CmpEqualImpliesEq R) (key : L → K)
    (leases : BTreeMap ℕ L) (ordered : IsOrdered nat_cmp leases) (map : BTreeMap K ℕ) (map_ordered : IsOrdered R map)
    (h : Mirrors (λ e. (key e.1, e.0)) leases.entries map.entries) where
  abbrev is_entry : K → ℕ → K × ℕ → Bool
  is_entry k n b = is_at (R k) b.0 && b.1 == n

  -- each lease's number stands under its key
  pub index-to : (n : ℕ) (l : L) → get nat_cmp leases n ≡ Some l → get R map (key l) ≡ Some n
  index-to n l a =
      let r = mirrored-to (λ (e : ℕ × L). (key e.1, e.0)) leases.entries map.entries h (is_entry (key l) n) (n, l) (at-entry nat_cmp_total exact_unsigned leases ordered n l a)
      (and_from _ _ (key-self o (key l)) (same_number n)) in
      let t = and_parts _ _ r.2 in
      let k : key l ≡ r.0.0 = at_exact exact (key l) r.0.0 t.0 in
      let number : r.0.1 ≡ n = eqb-true r.0.1 n t.1 in
      ap (get R map) k ∙ entry-at o exact map map_ordered r.0.0 r.0.1 r.1 ∙ ap Some number

  -- and nothing else
  pub index-from : (k : K) (n : ℕ) → get R map k ≡ Some n → (l : L) × (get nat_cmp leases n ≡ Some l) × (key l ≡ k)
  index-from k n a =
      let r = mirrored-from (λ (e : ℕ × L). (key e.1, e.0)) leases.entries map.entries h (is_entry k n) (k, n) (at-entry o exact map map_ordered k n a)
      (and_from _ _ (key-self o k) (same_number n)) in
      let t = and_parts _ _ r.2 in
      let number : r.0.0 ≡ n = eqb-true r.0.0 n t.1 in
      (r.0.1, ap (get nat_cmp leases) (sym number) ∙ entry-at nat_cmp_total exact_unsigned leases ordered r.0.0 r.0.1 r.1, sym (at_exact exact k (key r.0.1) t.0))

  -- two leases with one key are one
  pub index-one : (n m : ℕ) (x y : L) → get nat_cmp leases n ≡ Some x → get nat_cmp leases m ≡ Some y → key x ≡ key y → n ≡ m
  index-one n m x y a b same =
      let both : Some n ≡ Some m = sym (index-to n x a) ∙ ap (get R map) same ∙ index-to m y b in cc
