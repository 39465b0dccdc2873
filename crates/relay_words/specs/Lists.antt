-- Texts, each of which writes a value (our own).
use Rattle.std.specs.Prelude.{◌≡◌, Bool, true, false, List, [], ◌∷◌, ◌++◌, ⊤}
use Rattle.clap.specs.Words.{Text}

module _ {X : Type 0} (Is : Text → X → Type 0) where
  -- each text is one
  abbrev pub AreAll : List Text → List X → Type 0
  AreAll [] [] = ⊤
  AreAll [] (value ∷ values) = ⊥
  AreAll (text ∷ texts) [] = ⊥
  AreAll (text ∷ texts) (value ∷ values) = Is text value × AreAll texts values

  -- what was read of some texts, behind other values: all of them, and no others; or one is none
  pub record AddsAll (texts : List Text) (old new : List X) : Type 0 where
    pub added : List X
    pub are : AreAll texts added
    pub only : (others : List X) → AreAll texts others → others ≡ added
    pub new_is : new ≡ old ++ added

  abbrev pub Adds : List Text → List X → List X → Bool → Type 0
  Adds texts old new true = AddsAll texts old new
  Adds texts old new false = (values : List X) → ¬ (AreAll texts values)
