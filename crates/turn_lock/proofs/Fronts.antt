-- Beginnings of one list.
use Rattle.std.proofs.Common.{◌≡◌, ◌≤◌, ◌⊎◌, ⊎_elim, Bool, true, false, List, [], ◌∷◌, ◌++◌, length, refl, ap, sym, ◌∙◌, arith, append_assoc, append-nil, length-append}
use mathlib.Core.List.{IsPrefix}
use Rattle.std.specs.Prelude.{nat_lt, if◌then◌else◌}
use Rattle.std.proofs.lemmas.Bool.{ltb-true, ltb-false}
use Rattle.turn_lock.specs.Lengths.{longer, shorter}

pub prefix_self : {A : Type 0} (xs : List A) → IsPrefix xs xs
prefix_self xs = ([], append-nil xs)

pub prefix_nil : {A : Type 0} (xs : List A) → IsPrefix [] xs
prefix_nil xs = (xs, refl)

pub prefix_trans : {A : Type 0} (xs ys zs : List A) → IsPrefix xs ys → IsPrefix ys zs → IsPrefix xs zs
prefix_trans xs ys zs p q = (p.0 ++ q.0, sym (append_assoc xs p.0 q.0) ∙ (ap (λ w. w ++ q.0) p.1 ∙ q.1))

-- a beginning of a list begins each longer one
pub prefix_more : {A : Type 0} (xs ys more : List A) → IsPrefix xs ys → IsPrefix xs (ys ++ more)
prefix_more xs ys more p = (p.0 ++ more, sym (append_assoc xs p.0 more) ∙ ap (λ w. w ++ more) p.1)

-- of two beginnings of one list the shorter begins the longer
pub prefix_shorter : {A : Type 0} (xs ys zs : List A) → IsPrefix xs zs → IsPrefix ys zs → length xs ≤ length ys → IsPrefix xs ys
prefix_shorter [] ys zs p q le = (ys, refl)
prefix_shorter (x ∷ xs) [] zs p q le = absurd (omega arith)
prefix_shorter (x ∷ xs) (y ∷ ys) [] p q le = absurd (cc (p.1))
prefix_shorter (x ∷ xs) (y ∷ ys) (z ∷ zs) p q le =
    let heads : x ≡ y = cc (p.1, q.1) in
    let rest = prefix_shorter xs ys zs (p.0, cc (p.1)) (q.0, cc (q.1)) (omega arith) in
    (rest.0, cc (heads, rest.1))

pub prefix_length : {A : Type 0} (xs ys : List A) → IsPrefix xs ys → length xs ≤ length ys
prefix_length xs ys p = omega (arith, sym (ap length p.1) ∙ length-append xs p.0)

-- a beginning of a list that is as long is the list
pub prefix_whole : {A : Type 0} (xs ys : List A) → IsPrefix xs ys → length ys ≤ length xs → xs ≡ ys
prefix_whole [] [] p long = refl
prefix_whole [] (y ∷ ys) p long = absurd (omega arith)
prefix_whole (x ∷ xs) [] p long = absurd (cc (p.1))
prefix_whole (x ∷ xs) (y ∷ ys) p long =
    let heads : x ≡ y = cc (p.1) in
    let rest = prefix_whole xs ys (p.0, cc (p.1)) (omega arith) in
    cc (heads, rest)

-- of two beginnings of one list, the longer begins it, and the shorter begins the longer
pub longer_of : {A : Type 0} (xs ys log : List A) → IsPrefix xs log → IsPrefix ys log → IsPrefix (longer xs ys) log × IsPrefix (shorter xs ys) (longer xs ys)
longer_of {A} xs ys log p q = go (nat_lt (length xs) (length ys)) refl
  where
    go : (b : Bool) → nat_lt (length xs) (length ys) ≡ b → IsPrefix (if b then ys else xs) log × IsPrefix (if b then xs else ys) (if b then ys else xs)
    go true e = (q, prefix_shorter xs ys log p q (let l = ltb-true (length xs) (length ys) e in omega arith))
    go false e = (p, prefix_shorter ys xs log q p (ltb-false (length xs) (length ys) e))

-- of two beginnings of a list, one of which is the list, the longer is the list
pub longer_whole : {A : Type 0} (xs ys log : List A) → IsPrefix xs log → IsPrefix ys log → (xs ≡ log) ⊎ (ys ≡ log) → longer xs ys ≡ log
longer_whole {A} xs ys log p q whole = go (nat_lt (length xs) (length ys)) refl
  where
    go : (b : Bool) → nat_lt (length xs) (length ys) ≡ b → (if b then ys else xs) ≡ log
    go true e = ⊎_elim
        (λ is. let l = ltb-true (length xs) (length ys) e in let most = prefix_length ys log q in let same = ap length is in absurd (omega arith))
        (λ is. is)
        whole
    go false e = ⊎_elim
        (λ is. is)
        (λ is. prefix_whole xs log p (let l = ltb-false (length xs) (length ys) e in let same = ap length is in omega arith))
        whole

pub longer_length : {A : Type 0} (xs ys : List A) → (length xs ≤ length (longer xs ys)) × (length ys ≤ length (longer xs ys))
longer_length {A} xs ys = go (nat_lt (length xs) (length ys)) refl
  where
    go : (b : Bool) → nat_lt (length xs) (length ys) ≡ b → (length xs ≤ length (if b then ys else xs)) × (length ys ≤ length (if b then ys else xs))
    go true e = let l = ltb-true (length xs) (length ys) e in (omega arith, omega arith)
    go false e = let l = ltb-false (length xs) (length ys) e in (omega arith, omega arith)
