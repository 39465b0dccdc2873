-- A text as the fields that its spaces part (our own).
use Rattle.std.specs.Prelude.{◌≡◌, ◌≢◌, ℕ, List, [], ◌∷◌, ◌++◌, flat_map, codes}
use Rattle.std.specs.List.{AllByRecursion}

-- no space is among the octets
abbrev pub IsWord : List ℕ → Type 0
IsWord text = AllByRecursion (λ c. ¬ (c ≡ 32)) text

-- fields with one space between each two
abbrev pub spaced : List (List ℕ) → List ℕ
spaced [] = []
spaced (field ∷ fields) = field ++ flat_map (λ f. codes " " ++ f) fields

-- the text is these fields, none of which holds a space
pub record AreFields (text : List ℕ) (fields : List (List ℕ)) : Type 0 where
  pub spelled : text ≡ spaced fields
  pub words : AllByRecursion IsWord fields
  pub some : fields ≢ []
