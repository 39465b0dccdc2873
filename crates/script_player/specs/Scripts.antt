-- The lines of a script (our own).
use Rattle.std.specs.Prelude.{◌≡◌, ◌≢◌, ℕ, ◌+◌, ◌≤◌, ◌⊎◌, List, [], ◌∷◌, ◌++◌, length, flat_map}
use Rattle.std.specs.List.{AllByRecursion, AllZip}
use Rattle.pcp_base.specs.declared.configs.External.{External}
use Rattle.pcp_script.specs.Lines.{IsLine, HasOctets}
use Rattle.pcp_script.specs.declared.lines.Line.{Line}
use Rattle.script_player.specs.declared.player.TheConstants.{MOST_OCTETS}

-- a line that some text stands for
pub record IsRead (externals : List External) (line : Line) : Type 0 where
  pub text : List ℕ
  pub read : IsLine externals text line
  pub octets : HasOctets line

-- no line feed is among the octets
abbrev pub IsUnbroken : List ℕ → Type 0
IsUnbroken text = AllByRecursion (λ c. ¬ (c ≡ 10)) text

-- a line and its line feed
abbrev pub ended : List ℕ → List ℕ
ended text = text ++ 10 ∷ []

-- texts stand for these lines, one for one
abbrev pub AreLines : List External → List (List ℕ) → List Line → Type 0
AreLines externals texts lines = AllZip (IsLine externals) texts lines

-- the last line has no line feed, and nothing comes behind it
pub record LacksFeed (script rest : List ℕ) (texts : List (List ℕ)) : Type 0 where
  pub front : List (List ℕ)
  pub last : List ℕ
  pub texts_are : texts ≡ front ++ last ∷ []
  pub some : last ≢ []
  pub spelled : script ≡ flat_map ended front ++ last
  pub none_behind : rest ≡ []

-- The texts are the first lines of a script, and the rest comes behind them: each line ends with a
-- line feed, but that the last of the script may lack it.
pub record AreFirst (script rest : List ℕ) (texts : List (List ℕ)) : Type 0 where
  pub unbroken : AllByRecursion IsUnbroken texts
  pub spelled : (script ≡ flat_map ended texts ++ rest) ⊎ LacksFeed script rest texts
  pub few : length script ≤ MOST_OCTETS + length rest
