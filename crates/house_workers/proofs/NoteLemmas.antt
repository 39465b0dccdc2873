-- Entries that a pass notes, one call after the other.
use Rattle.std.proofs.Common.{◌≡◌, ℕ, zero, suc, ◌+◌, ◌≤◌, List, [], ◌∷◌, ◌++◌, length, Some, refl, sym, ap, ◌∙◌, subst, append_assoc, arith}
use Rattle.std.specs.List.{AllZip, range_with_len, slice_get}
use Rattle.std.proofs.lemmas.List.{append-nil, length-append}
use mathlib.Core.List.{IsPrefix}
use Rattle.pcp_base.specs.declared.datagrams.Entry.{Entry}
use Rattle.turn_lock.specs.Passes.{PassKnowledge}
use Rattle.house_workers.specs.OwnEntries.{AreRising, NotesInOrder}

-- ---- lists

pub prefix_trans : {X : Type 0} (xs ys zs : List X) → IsPrefix xs ys → IsPrefix ys zs → IsPrefix xs zs
prefix_trans {X} xs ys zs h k =
    (h.0 ++ k.0, sym (append_assoc xs h.0 k.0) ∙ (ap (λ (l : List X). l ++ k.0) h.1 ∙ k.1))

prefix_length : {X : Type 0} (xs ys : List X) → IsPrefix xs ys → length xs ≤ length ys
prefix_length xs ys h =
    let e = ap length (sym h.1) ∙ length-append xs h.0 in
    omega (arith, e)

pub there_still : {X : Type 0} (xs more : List X) (i : ℕ) (x : X) → slice_get xs i ≡ Some x
    → slice_get (xs ++ more) i ≡ Some x
there_still [] more i x e = absurd cc
there_still (y ∷ xs) more zero x e = e
there_still (y ∷ xs) more (suc i) x e = there_still xs more i x e

there_in : {X : Type 0} (xs ys : List X) (i : ℕ) (x : X) → IsPrefix xs ys
    → slice_get xs i ≡ Some x → slice_get ys i ≡ Some x
there_in {X} xs ys i x h e =
    subst (λ (l : List X). slice_get l i ≡ Some x) h.1 (there_still xs h.0 i x e)

pub at_first : {X : Type 0} (xs ys : List X) (y : X) → slice_get (xs ++ y ∷ ys) (length xs) ≡ Some y
at_first [] ys y = refl
at_first (x ∷ xs) ys y = at_first xs ys y

pub zip_append : {A B : Type 0} (R : A → B → Type 0) (xs xs' : List A) (ys ys' : List B) → AllZip R xs ys → AllZip R xs' ys' → AllZip R (xs ++ xs') (ys ++ ys')
zip_append R [] xs' [] ys' h k = k
zip_append R [] xs' (y ∷ ys) ys' h k = absurd h
zip_append R (x ∷ xs) xs' [] ys' h k = absurd h
zip_append R (x ∷ xs) xs' (y ∷ ys) ys' h k = (h.0, zip_append R xs xs' ys ys' h.1 k)

-- ---- places

pub entries_later : {X : Type 0} (seen now : List X) (places : List ℕ) (entries : List X) → IsPrefix seen now
    → AllZip (λ p x. slice_get seen p ≡ Some x) places entries → AllZip (λ p x. slice_get now p ≡ Some x) places entries
entries_later seen now [] [] h k = tt
entries_later seen now [] (x ∷ xs) h k = absurd k
entries_later seen now (p ∷ ps) [] h k = absurd k
entries_later seen now (p ∷ ps) (x ∷ xs) h k = (there_in seen now p x h k.0, entries_later seen now ps xs h k.1)

entries_behind : {X : Type 0} (front entries : List X) (at : ℕ) → at ≡ length front
    → AllZip (λ p x. slice_get (front ++ entries) p ≡ Some x) (range_with_len at (length entries)) entries
entries_behind front [] at is = tt
entries_behind {X} front (x ∷ xs) at is =
    let one_more : at + 1 ≡ length (front ++ x ∷ []) =
    let e = length-append front (x ∷ []) in omega (arith, e, is) in (
      ap (λ n. slice_get (front ++ x ∷ xs) n) is ∙ at_first front xs x,
      subst (λ (l : List X). AllZip (λ p y. slice_get l p ≡ Some y) (range_with_len (at + 1) (length xs)) xs)
          (append_assoc front (x ∷ []) xs) (entries_behind (front ++ x ∷ []) xs (at + 1) one_more),
    )

rising_range : (from at n to : ℕ) → from ≤ at → at + n ≤ to → AreRising from (range_with_len at n) to
rising_range from at zero to h k = omega (arith, h, k)
rising_range from at (suc n) to h k =
    (h, rising_range (at + 1) (at + 1) n to (omega arith) (omega (arith, k)))

pub rising_from : (from after : ℕ) (ns : List ℕ) (to : ℕ) → from ≤ after → AreRising after ns to → AreRising from ns to
rising_from from after [] to h k = omega (arith, h, k)
rising_from from after (n ∷ ns) to h k =
    let first = k.0 in
    (omega (arith, h, first), k.1)

pub rising_append : (from : ℕ) (ns : List ℕ) (mid : ℕ) (ms : List ℕ) (to : ℕ) → AreRising from ns mid → AreRising mid ms to → AreRising from (ns ++ ms) to
rising_append from [] mid ms to h k = rising_from from mid ms to h k
rising_append from (n ∷ ns) mid ms to h k = (h.0, rising_append (n + 1) ns mid ms to h.1 k)

-- the first of them is no later than their end
pub rising_within : (from : ℕ) (ns : List ℕ) (to : ℕ) → AreRising from ns to → from ≤ to
rising_within from [] to h = h
rising_within from (n ∷ ns) to h =
    let first = h.0 in
    let rest = rising_within (n + 1) ns to h.1 in
    omega (arith, first, rest)

pub rising_to : (from : ℕ) (ns : List ℕ) (to later : ℕ) → to ≤ later → AreRising from ns to → AreRising from ns later
rising_to from [] to later h k = omega (arith, h, k)
rising_to from (n ∷ ns) to later h k = (k.0, rising_to (n + 1) ns to later h k.1)

-- two parts of them, one behind the other
pub rising_parts : (from : ℕ) (ns ms : List ℕ) (to : ℕ) → AreRising from (ns ++ ms) to
    → (mid : ℕ) × AreRising from ns mid × AreRising mid ms to
rising_parts from [] ms to h = (from, omega arith, h)
rising_parts from (n ∷ ns) ms to h =
    let rest = rising_parts (n + 1) ns ms to h.1 in
    (rest.0, (h.0, rest.1), rest.2)

-- ---- what a pass noted

pub notes_none : {M : Type 0} (p : PassKnowledge Entry M) → NotesInOrder p p []
notes_none p = record {
  places = [];
  seen = ([], append-nil p.seen);
  marks = ([], append-nil p.marks);
  mine = sym (append-nil p.mine);
  rising = omega arith;
  entries = tt;
}

pub notes_one : {M : Type 0} (old new : PassKnowledge Entry M) (more before own : List Entry) → IsPrefix old.marks new.marks → before ≡ old.seen ++ more
    → new.seen ≡ before ++ own → new.mine ≡ old.mine ++ range_with_len (length before) (length own)
    → NotesInOrder old new own
notes_one old new more before own marks first seen mine =
    let sum : length new.seen ≡ length before + length own = ap length seen ∙ length-append before own in
    let less : length old.seen ≤ length before = prefix_length old.seen before (more, sym first) in
    record {
      places = range_with_len (length before) (length own);
      seen = (more ++ own, sym (append_assoc old.seen more own) ∙ (ap (λ (l : List Entry). l ++ own) (sym first) ∙ sym seen));
      marks = marks;
      mine = mine;
      rising = rising_range (length old.seen) (length before) (length own) (length new.seen) less (omega (arith, sum));
      entries = subst (λ (l : List Entry). AllZip (λ p e. slice_get l p ≡ Some e) (range_with_len (length before) (length own)) own)
          (sym seen) (entries_behind before own (length before) refl);
    }

pub notes_append : {M : Type 0} (a b c : PassKnowledge Entry M) (xs ys : List Entry) → NotesInOrder a b xs → NotesInOrder b c ys → NotesInOrder a c (xs ++ ys)
notes_append a b c xs ys h k = record {
  places = h.places ++ k.places;
  seen = prefix_trans a.seen b.seen c.seen h.seen k.seen;
  marks = prefix_trans a.marks b.marks c.marks h.marks k.marks;
  mine = k.mine ∙ (ap (λ (l : List ℕ). l ++ k.places) h.mine ∙ append_assoc a.mine h.places k.places);
  rising = rising_append (length a.seen) h.places (length b.seen) k.places (length c.seen) h.rising k.rising;
  entries = zip_append (λ p e. slice_get c.seen p ≡ Some e) h.places k.places xs ys
      (entries_later b.seen c.seen h.places xs k.seen h.entries) k.entries;
}
