-- A law of the lines of a script (our own).
use Rattle.std.specs.Prelude.{◌≡◌, ◌≢◌, ℕ, List}
use Rattle.pcp_base.specs.Tables.{EachTwo}
use Rattle.pcp_base.specs.declared.configs.External.{External}
use Rattle.pcp_script.specs.Lines.{IsLine}
use Rattle.pcp_script.specs.declared.lines.Line.{Line}

-- A text stands for one line, where no two external addresses are one, as in each configuration.
abbrev pub OneLine : Type 0
OneLine = (externals : List External) (text : List ℕ) (a b : Line) →
    EachTwo (λ x y. x.address ≢ y.address) externals →
    IsLine externals text a → IsLine externals text b → a ≡ b
