-- The key of a relay in a file (our own).
use Rattle.std.specs.Prelude.{◌≡◌, Bool, true, false, List, [], ◌∷◌, ◌++◌, Option, Some, None, option_map, codes}
use Rattle.clap.specs.Words.{Text}

-- the text that a file has for a key, in words of an older command; one file at most, and it is there
abbrev pub key_words : List Text → Option Text → Option (List Text)
key_words [] filed = Some []
key_words (path ∷ []) filed = option_map (λ text. codes "--key" ∷ text ∷ []) filed
key_words (path ∷ other ∷ paths) filed = None

-- whether there are such words, which then are behind others
abbrev pub IsKeyed : Option (List Text) → List Text → List Text → Bool → Type 0
IsKeyed None old new there = there ≡ false
IsKeyed (Some keys) old new there = (there ≡ true) × (new ≡ old ++ keys)
