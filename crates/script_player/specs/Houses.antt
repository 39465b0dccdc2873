-- What the lines of a script do to what answers them (our own). A house is what lines act on.
use Rattle.std.specs.Prelude.{ℕ, List, [], ◌∷◌, ◌++◌, Option, Some, None}
use Rattle.pcp_base.specs.declared.configs.External.{External}
use Rattle.pcp_script.specs.declared.lines.Line.{Line}
use Rattle.pcp_script.specs.declared.results.LineResult.{LineResult}
use Rattle.pcp_script.specs.Results.{result_text}

pub record LineEffects (House : Type 0) : Type 0 where
  -- the external addresses that lines may name
  pub externals : House → List External
  -- the house after a line
  pub after : House → Line → House
  -- what a line is told, if anything
  pub result_of : House → Line → Option LineResult

-- what a line puts out
abbrev pub line_out : Option LineResult → List ℕ
line_out None = []
line_out (Some told) = result_text told

-- the house after these lines
abbrev pub after_lines : {House : Type 0} → LineEffects House → House → List Line → House
after_lines effects house [] = house
after_lines effects house (line ∷ lines) = after_lines effects (effects.after house line) lines

-- what these lines put out
abbrev pub out_of : {House : Type 0} → LineEffects House → House → List Line → List ℕ
out_of effects house [] = []
out_of effects house (line ∷ lines) =
    line_out (effects.result_of house line) ++ out_of effects (effects.after house line) lines

-- the house before the first of these lines, and after each of them
abbrev pub houses_along : {House : Type 0} → LineEffects House → House → List Line → List House
houses_along effects house [] = house ∷ []
houses_along effects house (line ∷ lines) =
    house ∷ houses_along effects (effects.after house line) lines
