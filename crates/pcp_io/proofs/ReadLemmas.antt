-- A read out of a list.
use Rattle.std.proofs.Common.{◌≡◌, ℕ, ◌+◌, ◌-◌, ◌<◌, ◌↔◌, min, List, [], ◌∷◌, ◌++◌, length, take, drop, Some, refl, sym, ap, subst, ◌∙◌, arith, drop-drop, take-append-drop}
use Rattle.std.proofs.lemmas.Grind.{common_steps}
use Rattle.std.proofs.lemmas.Slice.{drop-append-drop}
use Rattle.std.proofs.Math.Seq.{take-append_seam}
use Rattle.pcp_io.proofs.KnownOctets.{behind}
use Rattle.pcp_io.specs.Reads.{Reads}

-- none come into room exactly where none is left
none-left : (left piece : List ℕ) (n : ℕ) → n ≡ min (length left) (length piece) → 0 < length piece → (n ≡ 0) ↔ (left ≡ [])
none-left [] piece n e room = (λ _. refl, λ _. omega (arith, e))
none-left (x ∷ xs) piece n e room = (λ none. absurd (omega (arith, e)), λ h. absurd (let g : x ∷ xs ≡ [] = h in cc))

-- the first octets, and the rest of the piece behind them
front-and-rest : (left piece front : List ℕ) (n : ℕ) → n ≡ length front → front ≡ take n left → take n (front ++ drop n piece) ++ drop n left ≡ left
front-and-rest left piece front n len is_front = rw (len, take-append_seam front (drop (length front) piece)) (rw (← len, is_front) (take-append-drop n left))

Reads-front : (octets piece left front : List ℕ) (at n : ℕ) → left ≡ drop at octets → n ≡ min (length left) (length piece) → front ≡ take n left → Reads (Some left) (Some (drop (at + n) octets)) piece (front ++ drop n piece) n
Reads-front octets piece left front at n is_left count is_front =
    let len : n ≡ length front = grind (arith, common_steps) in
    let same_length : length (front ++ drop n piece) ≡ length piece = grind (arith, common_steps) in
    let later : drop (at + n) octets ≡ drop n left = sym (drop-drop n at octets) ∙ ap (drop n) (sym is_left) in
    record {
      bound = omega arith;
      octets = ap Some (sym (ap (λ rest. take n (front ++ drop n piece) ++ rest) later ∙ front-and-rest left piece front n len is_front));
      rest = drop-append-drop n piece front n (omega arith) (sym len);
      «end» = λ room. none-left left piece n count (omega arith);
    }

-- the same, as the code has what is left: a slice of all octets
pub Reads-slice : (octets slice piece left front : List ℕ) (at n : ℕ) → slice ≡ octets → left ≡ drop at octets
    → n ≡ min (length (take (length slice - at) (drop at slice))) (length piece)
    → front ≡ take n (take (length slice - at) (drop at slice))
    → Reads (Some left) (Some (drop (at + n) octets)) piece (front ++ drop n piece) n
Reads-slice octets slice piece left front at n same is_left count is_front =
    let whole : take (length slice - at) (drop at slice) ≡ left = rw (same, is_left) (behind octets at) in
    Reads-front octets piece left front at n is_left
    (subst (λ (xs : List ℕ). n ≡ min (length xs) (length piece)) whole count)
    (subst (λ (xs : List ℕ). front ≡ take n xs) whole is_front)
