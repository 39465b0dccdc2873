-- Options that stand among the words of an older command, each with its value in the next word (our own).
use Rattle.std.specs.Prelude.{Bool, ◌||◌, List, [], ◌∷◌, codes, if◌then◌else◌}
use Rattle.std.specs.Str.{bytes_eq}
use Rattle.clap.specs.Words.{Text}

abbrev pub is_more : Text → Bool
is_more word = bytes_eq word (codes "--nonce") || bytes_eq word (codes "--nonce-file")
    || bytes_eq word (codes "--filter") || bytes_eq word (codes "--third-party")

-- the words without these options; one that stands last has no value, and stays
abbrev pub plain_in : List Text → List Text
plain_in [] = []
plain_in (word ∷ []) = word ∷ []
plain_in (word ∷ value ∷ rest) =
    if is_more word then plain_in rest else word ∷ plain_in (value ∷ rest)

-- the values of one of them, in order
abbrev pub with_value : Bool → Text → List Text → List Text
with_value named value values = if named then value ∷ values else values

abbrev pub values_in : Text → List Text → List Text
values_in name [] = []
values_in name (word ∷ []) = []
values_in name (word ∷ value ∷ rest) =
    if is_more word then with_value (bytes_eq word name) value (values_in name rest)
    else values_in name (value ∷ rest)
