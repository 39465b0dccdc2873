-- Options that stand among the words of a relay, each with its value in the next word (our own).
use Rattle.std.specs.Prelude.{Bool, true, ◌||◌, ◌&&◌, List, [], ◌∷◌, codes, if◌then◌else◌}
use Rattle.std.specs.Str.{bytes_eq}
use Rattle.clap.specs.Words.{Text}

abbrev pub is_more : Text → Bool
is_more word = bytes_eq word (codes "--third-party") || bytes_eq word (codes "--rate")
    || bytes_eq word (codes "--key-file")

abbrev pub is_inner : Text → Bool
is_inner word = bytes_eq word (codes "--inner")

-- The words without these options and without `--inner` behind the first one, which an older command has too; `seen` is whether
-- that came. One that stands last has no value, and stays.
abbrev pub plain_in : (seen : Bool) → List Text → List Text
plain_in seen [] = []
plain_in seen (word ∷ []) = word ∷ []
plain_in seen (word ∷ value ∷ rest) =
    if is_more word || (seen && is_inner word) then plain_in seen rest
    else if is_inner word then word ∷ value ∷ plain_in true rest
    else word ∷ plain_in seen (value ∷ rest)

-- the values of one of them, in order
abbrev pub with_value : Bool → Text → List Text → List Text
with_value named value values = if named then value ∷ values else values

abbrev pub values_in : Text → List Text → List Text
values_in name [] = []
values_in name (word ∷ []) = []
values_in name (word ∷ value ∷ rest) =
    if is_more word || is_inner word
    then with_value (bytes_eq word name) value (values_in name rest)
    else values_in name (value ∷ rest)
