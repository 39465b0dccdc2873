-- Writes that leave no gap.
use Rattle.std.proofs.Common.{◌≡◌, ℕ, ◌+◌, ◌-◌, ◌≤◌, min, List, [], ◌∷◌, ◌++◌, length, take, drop, sym, ◌∙◌, ap, arith, take-append-drop, replicate}
use Rattle.std.proofs.lemmas.List.{append-nil, take-append-le}
use Rattle.lease_disk.specs.Contents.{after_write}
use Rattle.lease_disk.specs.Images.{Torn}

pub after_write_within : (octets : List ℕ) (place : ℕ) (piece : List ℕ) → place ≤ length octets
    → after_write octets place piece ≡ take place octets ++ piece ++ drop (place + length piece) octets
after_write_within octets place [] within =
    let none : place + length {A = ℕ} [] ≡ place = omega arith in
    sym (take-append-drop place octets) ∙ ap (λ (l : List ℕ). l ++ drop place octets) (sym (append-nil (take place octets))) ∙ ap (λ (k : ℕ). take place octets ++ [] ++ drop k octets) (sym none)
after_write_within octets place (x ∷ xs) within =
    ap (λ (l : List ℕ). l ++ (x ∷ xs) ++ drop (place + length (x ∷ xs)) octets) (take-append-le place octets (replicate (place - length octets) 0) within)

pub torn_front : (place n : ℕ) (old new : List ℕ) → place ≤ length old → Torn place n old new → take place new ≡ take place old
torn_front place n old new within torn =
    let is : place ≡ min place (length old) = omega arith in
    ap (λ (k : ℕ). take k new) is ∙ torn.before
