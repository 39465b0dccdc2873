-- The texts of seven fields.
use Rattle.std.proofs.Common.{◌≡◌, ℕ, List, [], ◌∷◌, length, map, slice_index_or, refl, arith}

pub seven-texts : {X : Type 0} (now : X → List ℕ) (d : X) (xs : List X) → length xs ≡ 7
    → map now xs ≡ now (slice_index_or xs 0 d) ∷ now (slice_index_or xs 1 d) ∷ now (slice_index_or xs 2 d) ∷ now (slice_index_or xs 3 d) ∷ now (slice_index_or xs 4 d) ∷ now (slice_index_or xs 5 d) ∷ now (slice_index_or xs 6 d) ∷ []
seven-texts now d [] n = absurd (omega arith)
seven-texts now d (p ∷ []) n = absurd (omega arith)
seven-texts now d (p ∷ q ∷ []) n = absurd (omega arith)
seven-texts now d (p ∷ q ∷ r ∷ []) n = absurd (omega arith)
seven-texts now d (p ∷ q ∷ r ∷ s ∷ []) n = absurd (omega arith)
seven-texts now d (p ∷ q ∷ r ∷ s ∷ t ∷ []) n = absurd (omega arith)
seven-texts now d (p ∷ q ∷ r ∷ s ∷ t ∷ u ∷ []) n = absurd (omega arith)
seven-texts now d (p ∷ q ∷ r ∷ s ∷ t ∷ u ∷ v ∷ []) n = refl
seven-texts now d (p ∷ q ∷ r ∷ s ∷ t ∷ u ∷ v ∷ w ∷ ws) n = absurd (omega arith)
