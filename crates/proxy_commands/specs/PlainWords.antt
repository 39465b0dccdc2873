-- Plain words (our own): the name of a command, and behind it its options in any order, each once, as `--name` with its value in
-- the next word. They aren't told in the parser's words.
use Rattle.std.specs.Prelude.{List, [], ◌∷◌, ◌++◌, codes}
use Rattle.clap.specs.Words.{Text}
use Rattle.client_commands.specs.PlainWords.{AreGiven, Given, value_given}
use Rattle.proxy_commands.specs.declared.commands.CascadeCommand.{CascadeCommand}
use Rattle.proxy_commands.specs.declared.commands.ProxyCommand.{ProxyCommand}
use Rattle.proxy_commands.specs.Commands.{IsCascadeIn, IsProxyIn}

-- the options of each command, each of which must be given
abbrev pub proxy_options : List Text
proxy_options = codes "server" ∷ codes "own" ∷ codes "inner" ∷ codes "key" ∷ []

abbrev pub cascade_options : List Text
cascade_options = proxy_options ++ codes "low" ∷ codes "high" ∷ []

-- the words are plain, and say this command: each value is one of its option
abbrev pub ArePlainWords : List Text → ProxyCommand → Type 0
ArePlainWords words command =
    (givens : List Given) × AreGiven (codes "proxy") proxy_options [] words givens
    × IsProxyIn (value_given givens) command

-- likewise, and the lowest port doesn't exceed the highest
abbrev pub ArePlainCascadeWords : List Text → CascadeCommand → Type 0
ArePlainCascadeWords words command =
    (givens : List Given) × AreGiven (codes "cascade") cascade_options [] words givens
    × IsCascadeIn (value_given givens) command
