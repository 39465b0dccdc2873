-- A write, as the code makes it: zeros first, and then the piece over them.
use Rattle.std.proofs.Common.{◌≡◌, inl, inr, ℕ, ◌+◌, ◌-◌, ◌<◌, List, [], ◌∷◌, ◌++◌, length, take, drop, sym, ◌∙◌, ap, arith, append_assoc, replicate}
use Rattle.std.proofs.lemmas.Bool.{cases_lt}
use Rattle.std.proofs.lemmas.List.{replicate-append-replicate, take-append-le, drop_all, append-nil}
use Rattle.lease_disk.specs.Contents.{with_zeros, after_write}
use Rattle.lease_disk.specs.ImageLaws.{length-with_zeros}

-- more zeros stand behind the others
with_zeros-more : (octets : List ℕ) (place n : ℕ) → (k : ℕ) × (with_zeros octets (place + n) ≡ with_zeros octets place ++ replicate k 0)
with_zeros-more octets place n =
    let few : ℕ = place - length octets in
    let more : ℕ = (place + n - length octets) - few in
    let is : few + more ≡ place + n - length octets = omega arith in
    let zeros : replicate (place + n - length octets) 0 ≡ replicate few 0 ++ replicate more 0 = ap (λ (k : ℕ). replicate k 0) (sym is) ∙ sym (replicate-append-replicate few more 0) in
    (more, ap (λ (l : List ℕ). octets ++ l) zeros ∙ sym (append_assoc octets (replicate few 0) (replicate more 0)))

take-with_zeros : (octets : List ℕ) (place n : ℕ) → take place (with_zeros octets (place + n)) ≡ take place (with_zeros octets place)
take-with_zeros octets place n =
    let more = with_zeros-more octets place n in
    ap (λ (l : List ℕ). take place l) more.1 ∙ take-append-le place (with_zeros octets place) (replicate more.0 0) (omega (arith, length-with_zeros octets place))

pub drop-with_zeros : (octets : List ℕ) (end : ℕ) → drop end (with_zeros octets end) ≡ drop end octets
drop-with_zeros octets end =
    elim (cases_lt (length octets) end) [
      | inr within ↦ let none : end - length octets ≡ 0 = omega arith in ap (λ (k : ℕ). drop end (octets ++ replicate k 0)) none ∙ ap (λ (l : List ℕ). drop end l) (append-nil octets)
      | inl past ↦ drop_all end (with_zeros octets end) (omega (arith, length-with_zeros octets end)) ∙ sym (drop_all end octets (omega arith))
    ]

pub after_write_padded : (octets piece : List ℕ) (place : ℕ) → 0 < length piece
    → take place (with_zeros octets (place + length piece)) ++ piece ++ drop (place + length piece) (with_zeros octets (place + length piece)) ≡ after_write octets place piece
after_write_padded octets [] place some = absurd (omega arith)
after_write_padded octets (x ∷ xs) place some =
    let n = length (x ∷ xs) in
    ap (λ (l : List ℕ). l ++ (x ∷ xs) ++ drop (place + n) (with_zeros octets (place + n))) (take-with_zeros octets place n)
    ∙ ap (λ (l : List ℕ). take place (with_zeros octets place) ++ (x ∷ xs) ++ l) (drop-with_zeros octets (place + n))
