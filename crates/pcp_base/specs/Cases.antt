-- A table of cases, of which the first that applies decides.
use Rattle.std.specs.Prelude.{Bool, List, [], ◌∷◌, Option, Some, None, if◌then◌else◌}

pub record Case (X : Type 0) : Type 0 where
  pub applies : Bool
  pub result : X

-- the result of the first case that applies, none where none does
abbrev pub first_case : {X : Type 0} → List (Case X) → Option X
first_case [] = None
first_case (c ∷ cs) = if c.applies then Some c.result else first_case cs
