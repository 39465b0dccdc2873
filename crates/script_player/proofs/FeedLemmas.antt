-- Octets without a line feed, and lists that are split at their line feeds.
use Rattle.std.proofs.Common.{◌≡◌, ℕ, ◌⊎◌, inl, inr, List, [], ◌∷◌, ◌++◌, flat_map, slice_get, Some, refl, ap, sym, ◌∙◌, append_assoc, append-nil}
use Rattle.std.specs.List.{AllByRecursion}
use Rattle.std.proofs.lemmas.Bool.{cases_eq}
use Rattle.pcp_base.proofs.Members.{All-append, All-push}
use Rattle.script_player.specs.Scripts.{IsUnbroken, ended}

pub IsUnbroken-append : (xs ys : List ℕ) → IsUnbroken xs → IsUnbroken ys → IsUnbroken (xs ++ ys)
IsUnbroken-append xs ys h k = All-append (λ c. ¬ (c ≡ 10)) xs ys h k

pub AllUnbroken-push : (texts : List (List ℕ)) (text : List ℕ) → AllByRecursion IsUnbroken texts → IsUnbroken text → AllByRecursion IsUnbroken (texts ++ text ∷ [])
AllUnbroken-push texts text h k = All-push IsUnbroken texts text h k

pub flat_map-ended-push : (texts : List (List ℕ)) (text : List ℕ) → flat_map ended (texts ++ text ∷ []) ≡ flat_map ended texts ++ ended text
flat_map-ended-push [] text = append-nil (ended text)
flat_map-ended-push (t ∷ texts) text = ap (λ rest. ended t ++ rest) (flat_map-ended-push texts text) ∙ sym (append_assoc (ended t) (flat_map ended texts) (ended text))

-- a list up to its first line feed, and what stands from there on
pub record Splits (xs : List ℕ) : Type 0 where
  pub front : List ℕ
  pub back : List ℕ
  pub spelled : xs ≡ front ++ back
  pub unbroken : IsUnbroken front
  pub whole : (back ≡ []) ⊎ (slice_get back 0 ≡ Some 10)

pub splits : (xs : List ℕ) → Splits xs
splits [] = record { front = []; back = []; spelled = refl; unbroken = tt; whole = inl refl }
splits (x ∷ xs) =
    elim (cases_eq x 10) [
      | inl feed ↦ record { front = []; back = x ∷ xs; spelled = refl; unbroken = tt; whole = inr (ap Some feed) }
      | inr other ↦
          let s = splits xs in
          record { front = x ∷ s.front; back = s.back; spelled = ap (λ rest. x ∷ rest) s.spelled; unbroken = (other, s.unbroken); whole = s.whole }
    ]
