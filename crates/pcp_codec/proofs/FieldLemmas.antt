-- Fields of a message, octet by octet.
use Rattle.std.specs.Int.{to_be_bytes, w16, w32}
use Rattle.std.proofs.Common.{◌≡◌, ℕ, zero, suc, ◌+◌, ◌^◌, ◌<◌, ◌≤◌, List, [], ◌∷◌, ◌++◌, length, take, drop, replicate, min, nat_le, true, false, refl, ap, sym, ◌∙◌, arith, add-zero, zero-add, add-one}
use Rattle.std.proofs.lemmas.List.{append-nil, get_or-drop}
use Rattle.std.proofs.lemmas.Nat.{be_bytes_2, be_bytes_4}
use Rattle.pcp_codec.specs.Fields.{octet, octets_at, u16_at, u32_at}

-- one octet more
pub octets_at-suc : (message : List ℕ) (place n : ℕ) → octets_at message place (suc n) ≡ octets_at message place n ++ octet message (place + n) ∷ []
octets_at-suc message place zero = rw add-zero refl
octets_at-suc message place (suc n) =
    let same : place + 1 + n ≡ place + suc n = omega arith in
    ap (λ rest. octet message place ∷ rest) (octets_at-suc message (place + 1) n ∙ ap (λ p. octets_at message (place + 1) n ++ octet message p ∷ []) same)

pub octets_at-more : (message : List ℕ) (place n : ℕ) → octets_at message place (n + 1) ≡ octets_at message place n ++ octet message (place + n) ∷ []
octets_at-more message place n = rw add-one (octets_at-suc message place n)

pub length-octets_at : (message : List ℕ) (place n : ℕ) → length (octets_at message place n) ≡ n
length-octets_at message place zero = refl
length-octets_at message place (suc n) = ap suc (length-octets_at message (place + 1) n)

-- behind the first octet
octets_at-tail : (x : ℕ) (xs : List ℕ) (place n : ℕ) → octets_at (x ∷ xs) (place + 1) n ≡ octets_at xs place n
octets_at-tail x xs place zero = refl
octets_at-tail x xs place (suc n) =
    let first : octet (x ∷ xs) (place + 1) ≡ octet xs place = rw add-one refl in
    rw (first, octets_at-tail x xs (place + 1) n) refl

-- all octets
pub octets_at-whole : (xs : List ℕ) → octets_at xs 0 (length xs) ≡ xs
octets_at-whole [] = refl
octets_at-whole (x ∷ xs) = ap (λ rest. x ∷ rest) (octets_at-tail x xs 0 (length xs) ∙ octets_at-whole xs)

pub octets_at-all : (xs : List ℕ) (n : ℕ) → length xs ≡ n → octets_at xs 0 n ≡ xs
octets_at-all xs n e = rw (← e) (octets_at-whole xs)

-- from a place on
pub octets_at-from : (message : List ℕ) (place i n : ℕ) → octets_at message (place + i) n ≡ octets_at (drop place message) i n
octets_at-from message place i zero = refl
octets_at-from message place i (suc n) =
    let same : place + i + 1 ≡ place + (i + 1) = omega arith in
    rw (get_or-drop place message i 0)
    (ap (λ rest. octet message (place + i) ∷ rest) (ap (λ p. octets_at message p n) same ∙ octets_at-from message place (i + 1) n))

past-end : (place n : ℕ) → octets_at [] place n ≡ replicate n 0
past-end place zero = refl
past-end place (suc n) = ap (λ rest. 0 ∷ rest) (past-end (place + 1) n)

-- octets that are there, and zeros where none is left
cut : (xs : List ℕ) (k z : ℕ) → k ≤ length xs → (0 < z → k ≡ length xs) → octets_at xs 0 (k + z) ≡ take k xs ++ replicate z 0
cut [] k z within all =
    let none : k ≡ 0 = omega (arith, within) in
    rw (none, zero-add) (past-end 0 z)
cut (x ∷ xs) zero zero within all = refl
cut (x ∷ xs) zero (suc z) within all = absurd (omega (arith, all))
cut (x ∷ xs) (suc k) z within all =
    let sum : suc k + z ≡ suc (k + z) = omega arith in
    rw sum (ap (λ rest. x ∷ rest) (octets_at-tail x xs 0 (k + z) ∙ cut xs k z (omega (arith, within)) (λ some. omega (arith, all some))))

pub drop-all : (xs : List ℕ) (n : ℕ) → length xs ≤ n → drop n xs ≡ []
drop-all [] zero h = refl
drop-all [] (suc n) h = refl
drop-all (x ∷ xs) zero h = absurd (omega (arith, h))
drop-all (x ∷ xs) (suc n) h = drop-all xs n (omega (arith, h))

drop-start : (message : List ℕ) (place start : ℕ) → start ≡ min place (length message) → drop start message ≡ drop place message
drop-start message place start e =
    elim (nat_le place (length message)) as (λ b. nat_le place (length message) ≡ b → drop start message ≡ drop place message) [
      | true ↦ λ h. let same : start ≡ place = grind (arith, e, h) in ap (λ k. drop k message) same
      | false ↦ λ h. let all : length message ≤ place = grind (arith, h) in let end : start ≡ length message = grind (arith, e, all) in
          ap (λ k. drop k message) end ∙ drop-all message (length message) (omega arith) ∙ sym (drop-all message place all)
    ] refl

-- what a copy of the octets from a place on writes over a piece
pub copied : (message there : List ℕ) (place start count size rest : ℕ) → start ≡ min place (length message) → there ≡ drop start message → count ≡ min (length there) size → rest + count ≡ size → take count there ++ replicate rest 0 ≡ octets_at message place size
copied message there place start count size rest s t c r =
    let from : octets_at message place size ≡ octets_at there 0 size =
    ap (λ p. octets_at message p size) (sym (add-zero place)) ∙ octets_at-from message place 0 size
    ∙ ap (λ m. octets_at m 0 size) (sym (t ∙ drop-start message place start s)) in
    let whole : size ≡ count + rest = omega (arith, c, r) in
    let within : count ≤ length there = omega (arith, c) in
    let all : 0 < rest → count ≡ length there = λ some. omega (arith, c, r, some) in
    sym (from ∙ ap (octets_at there 0) whole ∙ cut there count rest within all)

-- octets that are all there
pub chunk : (message there : List ℕ) (place start n : ℕ) → start ≡ min place (length message) → there ≡ drop start message → n ≤ length there → take n there ≡ octets_at message place n
chunk message there place start n s t h =
    let all : n ≡ min (length there) n = omega (arith, h) in
    let none : 0 + n ≡ n = omega arith in
    sym (append-nil (take n there)) ∙ copied message there place start n n 0 s t all none

-- one field behind another
pub octets_at-append : (message : List ℕ) (place a b : ℕ) → octets_at message place (a + b) ≡ octets_at message place a ++ octets_at message (place + a) b
octets_at-append message place zero b = rw (zero-add, add-zero) refl
octets_at-append message place (suc a) b =
    let sum : suc a + b ≡ suc (a + b) = omega arith in
    let same : place + 1 + a ≡ place + suc a = omega arith in
    rw sum (ap (λ rest. octet message place ∷ rest) (octets_at-append message (place + 1) a b ∙ ap (λ p. octets_at message (place + 1) a ++ octets_at message p b) same))

-- the first octets, and those behind them
pub octets_at-split : (message : List ℕ) (n : ℕ) → n ≤ length message → octets_at message 0 n ++ drop n message ≡ message
octets_at-split message zero h = refl
octets_at-split [] (suc n) h = absurd (omega arith)
octets_at-split (x ∷ xs) (suc n) h = ap (λ rest. x ∷ rest) (ap (λ front. front ++ drop n xs) (octets_at-tail x xs 0 n) ∙ octets_at-split xs n (omega arith))

-- octets of a message are octets
pub octets_at-fits : (message : List ℕ) → ((i : ℕ) → octet message i < 256) → (place n i : ℕ) → octet (octets_at message place n) i < 256
octets_at-fits message fits place zero i = omega arith
octets_at-fits message fits place (suc n) zero = fits place
octets_at-fits message fits place (suc n) (suc i) = octets_at-fits message fits (place + 1) n i

pub u16_at-fits : (message : List ℕ) → ((i : ℕ) → octet message i < 256) → (place : ℕ) → u16_at message place < 2 ^ 16
u16_at-fits message fits place = omega (arith, fits place, fits (place + 1))

pub u32_at-fits : (message : List ℕ) → ((i : ℕ) → octet message i < 256) → (place : ℕ) → u32_at message place < 2 ^ 32
u32_at-fits message fits place = omega (arith, fits place, fits (place + 1), fits (place + 1 + 1), fits (place + 1 + 1 + 1))

-- the octets of a number
pub u16_at-spelled : (message : List ℕ) → ((i : ℕ) → octet message i < 256) → (place : ℕ) → to_be_bytes w16 (u16_at message place) ≡ octets_at message place 2
u16_at-spelled message fits place = be_bytes_2 (octets_at message place 2) (u16_at message place) refl (octets_at-fits message fits place 2) refl

pub u32_at-spelled : (message : List ℕ) → ((i : ℕ) → octet message i < 256) → (place : ℕ) → to_be_bytes w32 (u32_at message place) ≡ octets_at message place 4
u32_at-spelled message fits place = be_bytes_4 (octets_at message place 4) (u32_at message place) refl (octets_at-fits message fits place 4) refl
