-- Pairs that are read one after the other.
use Rattle.std.proofs.Common.{◌≡◌, ℕ, zero, suc, ◌+◌, ◌≤◌, List, [], ◌∷◌, ◌++◌, Some, None, is_some, unwrap_or, length, take, refl, sym, ap, subst, ◌∙◌, ◌⊎◌, inl, arith, length-append}
use Rattle.std.proofs.lemmas.Bool.{false≢true}
use Rattle.std.proofs.lemmas.List.{take_more}
use Rattle.std.proofs.lemmas.Option.{get_or_from_slice_get, slice_get_within}
use Rattle.std.specs.List.{AllZip, slice_get}
use Rattle.std.specs.Prelude.{slice_set}
use Rattle.serde_json.specs.Data.{Data}
use Rattle.pcp_base.specs.declared.configs.External.{External}
use Rattle.lease_disk.specs.declared.disks.DiskPair.{DiskPair}
use Rattle.journal_sides.specs.Reads.{IsRead}
use Rattle.pcp_io.specs.Faults.{HasRisen}
use Rattle.journal_dump.specs.Dumps.{HasPairFault, IsOnlyRead, reading_value, reading_values}
use Rattle.journal_dump.specs.Readings.{JournalReading}
use Rattle.journal_dump.specs.Turns.{AreReadAs, IsReadAs}

-- ---- lists

pub zip_same : {X : Type 0} (R : X → X → Type 0) → ((x : X) → R x x) → (xs : List X) → AllZip R xs xs
zip_same R same [] = tt
zip_same R same (x ∷ xs) = (same x, zip_same R same xs)

same_some : {X : Type 0} (x y : X) → Some x ≡ Some y → x ≡ y
same_some x y same = ap (λ o. unwrap_or o x) same

pub zip_set : {X : Type 0} (R : X → X → Type 0) (xs ys : List X) (i : ℕ) (x y : X) → AllZip R xs ys
    → slice_get xs i ≡ Some x → R x y → AllZip R xs (slice_set ys i y)
zip_set R [] [] i x y zipped was step = tt
zip_set R [] (z ∷ zs) i x y zipped was step = absurd zipped
zip_set R (z ∷ zs) [] i x y zipped was step = absurd zipped
zip_set R (w ∷ ws) (z ∷ zs) zero x y zipped was step = (subst (λ v. R v y) (same_some x w (sym was)) step, zipped.1)
zip_set R (w ∷ ws) (z ∷ zs) (suc i) x y zipped was step = (zipped.0, zip_set R ws zs i x y zipped.1 was step)

none_some : {X : Type 0} (x : X) → None ≡ Some x → ⊥
none_some x same = false≢true (ap is_some same)

pub get_set_same : {X : Type 0} (xs : List X) (i : ℕ) (x y : X) → slice_get xs i ≡ Some x → slice_get (slice_set xs i y) i ≡ Some y
get_set_same [] i x y was = absurd (none_some x was)
get_set_same (z ∷ zs) zero x y was = refl
get_set_same (z ∷ zs) (suc i) x y was = get_set_same zs i x y was

pub get_set_other : {X : Type 0} (xs : List X) (i k : ℕ) (y : X) → i + 1 ≤ k → slice_get (slice_set xs i y) k ≡ slice_get xs k
get_set_other [] i k y past = refl
get_set_other (z ∷ zs) zero zero y past = absurd (omega (arith, past))
get_set_other (z ∷ zs) zero (suc k) y past = refl
get_set_other (z ∷ zs) (suc i) zero y past = refl
get_set_other (z ∷ zs) (suc i) (suc k) y past = get_set_other zs i k y (omega (arith, past))

pub zip_step : {X : Type 0} (R : X → X → Type 0) (initial now new : List X) (i : ℕ) (before after : X) → AllZip R initial now
    → ((k : ℕ) → i ≤ k → slice_get now k ≡ slice_get initial k) → slice_get now i ≡ Some before → new ≡ slice_set now i after → R before after
    → AllZip R initial new
zip_step R initial now new i before after zipped untouched was is step =
    let at : slice_get initial i ≡ Some before = sym (untouched i (omega arith)) ∙ was in
    subst (λ xs. AllZip R initial xs) (sym is) (zip_set R initial now i before after zipped at step)

pub same_behind : {X : Type 0} (initial now new : List X) (i : ℕ) (after : X) → ((k : ℕ) → i ≤ k → slice_get now k ≡ slice_get initial k)
    → new ≡ slice_set now i after → (k : ℕ) → i + 1 ≤ k → slice_get new k ≡ slice_get initial k
same_behind initial now new i after untouched is k past =
    ap (λ xs. slice_get xs k) is ∙ get_set_other now i k after past ∙ untouched k (omega (arith, past))

zip_more : {A B : Type 0} (R : A → B → Type 0) (xs : List A) (ys : List B) (x : A) (y : B) → AllZip R xs ys → R x y
    → AllZip R (xs ++ x ∷ []) (ys ++ y ∷ [])
zip_more R [] [] x y zipped step = (step, tt)
zip_more R [] (z ∷ zs) x y zipped step = absurd zipped
zip_more R (w ∷ ws) [] x y zipped step = absurd zipped
zip_more R (w ∷ ws) (z ∷ zs) x y zipped step = (zipped.0, zip_more R ws zs x y zipped.1 step)

take_next : {X : Type 0} (xs : List X) (i : ℕ) (x : X) → slice_get xs i ≡ Some x → take (i + 1) xs ≡ take i xs ++ x ∷ []
take_next xs i x is = take_more xs i x (slice_get_within xs i x is) ∙ ap (λ z. take i xs ++ z ∷ []) (get_or_from_slice_get xs i x x is)

-- ---- what is read

values_more : (es : List External) (rs : List JournalReading) (e : External) (r : JournalReading) → length rs ≡ length es
    → reading_values (es ++ e ∷ []) (rs ++ r ∷ []) ≡ reading_values es rs ++ reading_value e r ∷ []
values_more [] [] e r same = refl
values_more [] (z ∷ zs) e r same = absurd (omega (arith, same))
values_more (w ∷ ws) [] e r same = absurd (omega (arith, same))
values_more (w ∷ ws) (z ∷ zs) e r same = ap (λ values. reading_value w z ∷ values) (values_more ws zs e r (omega (arith, same)))

pub none_read : {D : Type 0} (tells : Type 0) (seen : D → List ℕ) → AreReadAs tells seen [] [] []
none_read tells seen = record { readings = []; one_each = refl; of_pairs = λ h. tt; tell_them = refl }

more_read : {D : Type 0} (tells : Type 0) (seen : D → List ℕ) (es : List External) (ps : List (DiskPair D)) (values : List Data)
    (e : External) (p : DiskPair D) (value : Data) → AreReadAs tells seen es ps values → IsReadAs tells seen e p value
    → AreReadAs tells seen (es ++ e ∷ []) (ps ++ p ∷ []) (values ++ value ∷ [])
more_read tells seen es ps values e p value are is = record {
  readings = are.readings ++ is.reading ∷ [];
  one_each = omega (arith, are.one_each, length-append are.readings (is.reading ∷ []), length-append es (e ∷ []));
  of_pairs = λ told. zip_more _ ps are.readings p is.reading (are.of_pairs told) (is.of_pair told);
  tell_them = ap (λ vs. vs ++ value ∷ []) are.tell_them ∙ ap (λ v. reading_values es are.readings ++ v ∷ []) is.tells_it
      ∙ sym (values_more es are.readings e is.reading are.one_each);
}

pub next_read : {D : Type 0} (tells : Type 0) (seen : D → List ℕ) (es : List External) (ps : List (DiskPair D)) (values : List Data)
    (i : ℕ) (e : External) (p : DiskPair D) (value : Data) → AreReadAs tells seen (take i es) (take i ps) values
    → slice_get es i ≡ Some e → slice_get ps i ≡ Some p → IsReadAs tells seen e p value
    → AreReadAs tells seen (take (i + 1) es) (take (i + 1) ps) (values ++ value ∷ [])
next_read tells seen es ps values i e p value are is_e is_p is = rw (take_next es i e is_e, take_next ps i p is_p) (more_read tells seen (take i es) (take i ps) values e p value are is)

-- ---- a pair that isn't touched

-- the fault of the pair at a place
pub fault_at : {D : Type 0} (faults : D → ℕ) (initial now new : List (DiskPair D)) (i shard : ℕ) (before after : DiskPair D) → i ≡ shard
    → ((k : ℕ) → i ≤ k → slice_get now k ≡ slice_get initial k) → slice_get now i ≡ Some before → new ≡ slice_set now i after
    → HasRisen (faults before.a) (faults after.a) ⊎ HasRisen (faults before.b) (faults after.b) → HasPairFault faults initial new shard
fault_at faults initial now new i shard before after same untouched was is risen =
    let at : slice_get initial i ≡ Some before = sym (untouched i (omega arith)) ∙ was in
    let here : slice_get new i ≡ Some after = ap (λ xs. slice_get xs i) is ∙ get_set_same now i before after was in
    subst (HasPairFault faults initial new) same (record { before = before; after = after; was = at; is = here; risen = risen })

module _ {D : Type 0} (moment : D → ℕ) (left_since : D → ℕ → List ℕ → Type 0) (may_leave : D → List ℕ → Type 0)
    (only_now : (disk : D) (image : List ℕ) → left_since disk (moment disk) image → may_leave disk image) where
  read_same : (disk : D) → IsRead moment left_since may_leave disk disk
  read_same disk = record {
    still = refl;
    run = record {
      later = omega arith;
      each = only_now disk;
      before = λ t image le h. inl h;
      keeps = λ t image le h. h;
    };
    images = λ image h. h;
  }

  pub same_read : (tells : Type 0) (seen : D → List ℕ) (faults : D → ℕ) (pair : DiskPair D)
      → IsOnlyRead tells seen moment left_since may_leave faults pair pair
  same_read tells seen faults pair = record {
    read = record { a = read_same pair.a; b = read_same pair.b };
    seen_still = λ told. record { a = refl; b = refl };
    later = record { later_a = omega arith; later_b = omega arith; risen = λ no. absurd no };
  }
