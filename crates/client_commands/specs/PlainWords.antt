-- Plain words (our own): the name of a command, and behind it options of its own in any order and each once at most, as `--name`
-- with a value in the next word, or a flag alone. They aren't told in the parser's words.
use Rattle.std.specs.Prelude.{◌≡◌, List, [], ◌∷◌, ◌++◌, All, Contains, flat_map, find, option_map, Option, None, codes, ⊤}
use Rattle.std.specs.Str.{bytes_eq}
use Rattle.clap.specs.Words.{Text}
use Rattle.client_commands.specs.declared.commands.ClientCommand.{ClientCommand}
use Rattle.client_commands.specs.declared.commands.ClientCommand.TheVariants.{Map, Peer, Announce}
use Rattle.client_commands.specs.Commands.{IsMapWanted, IsPeerWanted, IsTarget}

-- an option that is given with its value, or a flag
pub data Given : Type 0 where
  option : Text → Text → Given
  flag : Text → Given

-- its words
abbrev pub words_of : Given → List Text
words_of (option name value) = (45 ∷ 45 ∷ name) ∷ value ∷ []
words_of (flag name) = (45 ∷ 45 ∷ name) ∷ []

abbrev pub name_of : Given → Text
name_of (option name value) = name
name_of (flag name) = name

-- what it says; a flag says `true`
abbrev pub value_of : Given → Text
value_of (option name value) = value
value_of (flag name) = codes "true"

-- the value of a name, where it is given
abbrev pub value_given : List Given → Text → Option Text
value_given givens name =
    option_map value_of (find (λ given. bytes_eq (name_of given) name) givens)

-- it is one of these options, or one of these flags
abbrev pub IsOneOf : List Text → List Text → Given → Type 0
IsOneOf options flags (option name value) = Contains options name
IsOneOf options flags (flag name) = Contains flags name

-- none is given again
abbrev pub AreOnce : List Given → Type 0
AreOnce [] = ⊤
AreOnce (given ∷ rest) = (value_given rest (name_of given) ≡ None) × AreOnce rest

-- the words are a command's name, and these behind it
pub record AreGiven (name : Text) (options flags : List Text) (words : List Text)
    (givens : List Given) : Type 0 where
  pub spelled : words ≡ name ∷ flat_map words_of givens
  pub each : All (IsOneOf options flags) givens
  pub once : AreOnce givens

-- the options of each command, and the flags of `map`
abbrev pub target_options : List Text
target_options = codes "server" ∷ codes "own" ∷ codes "tries" ∷ []

abbrev pub mapping_options : List Text
mapping_options = target_options
    ++ codes "protocol" ∷ codes "port" ∷ codes "lifetime" ∷ codes "external-port" ∷ []

abbrev pub map_options : List Text
map_options = mapping_options ++ codes "size" ∷ []

abbrev pub peer_options : List Text
peer_options = mapping_options ++ codes "remote" ∷ codes "remote-port" ∷ []

abbrev pub map_flags : List Text
map_flags = codes "prefer-failure" ∷ []

-- the words are plain, and say this command: what it needs is given, and each value is one of its option
abbrev pub ArePlainWords : List Text → ClientCommand → Type 0
ArePlainWords words (Map target wanted) =
    (givens : List Given) × AreGiven (codes "map") map_options map_flags words givens
    × IsTarget (value_given givens) target × IsMapWanted (value_given givens) wanted
ArePlainWords words (Peer target wanted) =
    (givens : List Given) × AreGiven (codes "peer") peer_options [] words givens
    × IsTarget (value_given givens) target × IsPeerWanted (value_given givens) wanted
ArePlainWords words (Announce target) =
    (givens : List Given) × AreGiven (codes "announce") target_options [] words givens
    × IsTarget (value_given givens) target
