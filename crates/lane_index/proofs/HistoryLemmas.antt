-- The step that adds entries keeps the rule, and what histories that begin one another have in common.
use Rattle.std.proofs.Common.{◌≡◌, ℕ, ◌+◌, ◌<◌, ◌≤◌, ◌==◌, Bool, true, false, List, [], ◌∷◌, ◌++◌, length, refl, ap, sym, subst, ◌∙◌, arith, inl, length-append, append_assoc, None}
use Rattle.std.proofs.lemmas.List.{append-nil}
use Rattle.std.proofs.lemmas.Bool.Decides.{nat_tests}
use Rattle.std.specs.Bool.{OnTrue}
use mathlib.Core.List.{IsPrefix}
use prog.Atomic.{either}
use Rattle.logbook.specs.Pages.{Cell, cell, keeps, no_nib, step, Moves, Goes}
use Rattle.lane_index.specs.declared.history.HistoryEntry.{HistoryEntry}
use Rattle.lane_index.specs.declared.history.HistoryEntry.TheVariants.{Began, Added}
use Rattle.lane_index.specs.Histories.{IsLengthCounted, Adds, TellsLength, opening_in, added_in, HasBeginning}

-- ---- beginnings

pub prefix_trans : {A : Type 0} (xs ys zs : List A) → IsPrefix xs ys → IsPrefix ys zs → IsPrefix xs zs
prefix_trans xs ys zs p q = (p.0 ++ q.0, sym (append_assoc xs p.0 q.0) ∙ (ap (λ w. w ++ q.0) p.1 ∙ q.1))

-- of two beginnings of one list the shorter begins the longer
pub prefix_shorter : {A : Type 0} (xs ys zs : List A) → IsPrefix xs zs → IsPrefix ys zs → length xs ≤ length ys → IsPrefix xs ys
prefix_shorter [] ys zs p q le = (ys, refl)
prefix_shorter (x ∷ xs) [] zs p q le = absurd (omega arith)
prefix_shorter (x ∷ xs) (y ∷ ys) [] p q le = absurd (cc (p.1))
prefix_shorter (x ∷ xs) (y ∷ ys) (z ∷ zs) p q le =
    let heads : x ≡ y = cc (p.1, q.1) in
    let rest = prefix_shorter xs ys zs (p.0, cc (p.1)) (q.0, cc (q.1)) (omega arith) in
    (rest.0, cc (heads, rest.1))

-- a beginning as long as the whole is the whole
pub prefix_whole : {A : Type 0} (xs ys : List A) → IsPrefix xs ys → length ys ≤ length xs → xs ≡ ys
prefix_whole [] [] p le = refl
prefix_whole [] (y ∷ ys) p le = absurd (omega arith)
prefix_whole (x ∷ xs) [] p le = absurd (cc (p.1))
prefix_whole (x ∷ xs) (y ∷ ys) p le =
    let rest = prefix_whole xs ys (p.0, cc (p.1)) (omega arith) in cc (p.1, rest)

-- ---- the step

abbrev pub shown : List HistoryEntry → List HistoryEntry
shown log = []

abbrev pub moved : List HistoryEntry → List HistoryEntry → ℕ → Type 0
moved xs ys n = Unit {0}

adds_goes : (log v es : List HistoryEntry) (ask : HistoryEntry) (old new : ℕ) → length v ≡ old → new ≡ old + length es → IsPrefix v log
    → (b : Bool) → (length log == old) ≡ b
    → Goes IsLengthCounted shown moved 0 (v, (no_nib, None)) (λ n. either (n == old) new n) (Adds es (step 0 old new ask) (v, (no_nib, None))) ((length log, true) ∷ (0, true) ∷ []) log
adds_goes log v es ask old new len more pre true is =
    let here : length log ≡ old = grind (arith, nat_tests) in
    let same : v ≡ log = prefix_whole v log pre (omega arith) in
    let n : either (length log == old) new (length log) ≡ length (log ++ es) = rw is (omega (arith, more, here, length-append log es)) in (
      keeps,
      es,
      None,
      tt,
      record { words = ap (λ (k : ℕ). (k, true) ∷ (0, true) ∷ []) n },
      inl (refl, refl),
      rw is (ap (λ w. w ++ es) (sym same)),
    )
adds_goes log v es ask old new len more pre false is =
    let all : log ++ [] ≡ log = append-nil log in
    let n : either (length log == old) new (length log) ≡ length (log ++ []) = rw is (ap length (sym all)) in (
      keeps,
      [],
      None,
      tt,
      record { words = ap (λ (k : ℕ). (k, true) ∷ (0, true) ∷ []) n },
      inl (refl, refl),
      rw is tt,
    )

-- whatever the book is, the exchange adds the entries to all that was seen, or finds another length
pub adds_moves : (v es : List HistoryEntry) (ask : HistoryEntry) (old new : ℕ) → length v ≡ old → new ≡ old + length es
    → Moves IsLengthCounted shown moved 0 (v, (no_nib, None)) (λ n. either (n == old) new n) (Adds es (step 0 old new ask) (v, (no_nib, None)))
adds_moves v es ask old new len more cs log kept pre away =
    let P : List Cell → Type 0 = λ c. (0 < length c) × ((cell c 0).1 ≡ true) × Goes IsLengthCounted shown moved 0 (v, (no_nib, None)) (λ n. either (n == old) new n) (Adds es (step 0 old new ask) (v, (no_nib, None))) c log in
    subst P (sym kept.words) (omega arith, refl, adds_goes log v es ask old new len more pre (length log == old) refl)

-- whatever the book is, a step that changes nothing finds the length of all
pub counts_moves : (v : List HistoryEntry) (ask : HistoryEntry) → Moves IsLengthCounted shown moved 0 (v, (no_nib, None)) (λ n. n) (TellsLength (step 0 0 0 ask) (v, (no_nib, None)))
counts_moves v ask cs log kept pre away =
    let P : List Cell → Type 0 = λ c. (0 < length c) × ((cell c 0).1 ≡ true) × Goes IsLengthCounted shown moved 0 (v, (no_nib, None)) (λ n. n) (TellsLength (step 0 0 0 ask) (v, (no_nib, None))) c log in
    let all : log ≡ log ++ [] = sym (append-nil log) in
    subst P (sym kept.words) (
      omega arith,
      refl,
      (
        keeps,
        [],
        None,
        tt,
        record { words = ap (λ (l : List HistoryEntry). (length l, true) ∷ (0, true) ∷ []) all },
        inl (refl, refl),
        ap length all,
      ),
    )

-- what was seen begins what is as long as all
pub covered : (seen here both all : List HistoryEntry) (found count : ℕ) → IsPrefix here both → IsPrefix seen both → IsPrefix both all → found ≡ length all → count ≡ length here
    → (b : Bool) → (found == count) ≡ b → OnTrue b (IsPrefix seen here)
covered seen here both all found count mine theirs more counted long true is =
    let same : found ≡ count = grind (arith, nat_tests) in
    let whole : here ≡ all = prefix_whole here all (prefix_trans here both all mine more) (omega (arith, counted, long, same)) in
    subst (λ (l : List HistoryEntry). IsPrefix seen l) (sym whole) (prefix_trans seen both all theirs more)
covered seen here both all found count mine theirs more counted long false is = tt

-- ---- what is read of a history

pub records-append : (xs ys : List HistoryEntry) → added_in (xs ++ ys) ≡ added_in xs ++ added_in ys
records-append [] ys = refl
records-append (Began o ∷ xs) ys = records-append xs ys
records-append (Added r ∷ xs) ys = ap (λ rs. r ∷ rs) (records-append xs ys)

pub opening-append : (xs ys : List HistoryEntry) → HasBeginning xs → opening_in (xs ++ ys) ≡ opening_in xs
opening-append [] ys h = absurd h
opening-append (Began o ∷ xs) ys h = refl
opening-append (Added r ∷ xs) ys h = absurd h

pub begins-append : (xs ys : List HistoryEntry) → HasBeginning xs → HasBeginning (xs ++ ys)
begins-append [] ys h = absurd h
begins-append (Began o ∷ xs) ys h = tt
begins-append (Added r ∷ xs) ys h = absurd h

pub records-prefix : (xs ys : List HistoryEntry) → IsPrefix xs ys → IsPrefix (added_in xs) (added_in ys)
records-prefix xs ys p = (added_in p.0, sym (records-append xs p.0) ∙ ap added_in p.1)

-- a beginning begins with the same state
pub opening-prefix : (xs ys : List HistoryEntry) → HasBeginning xs → IsPrefix xs ys → opening_in xs ≡ opening_in ys
opening-prefix xs ys begins p = sym (opening-append xs p.0 begins) ∙ ap opening_in p.1
