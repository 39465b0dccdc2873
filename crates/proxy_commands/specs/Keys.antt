-- The key of a relay in text (our own).
use Rattle.std.specs.Prelude.{◌≡◌, ℕ, List, Option, Some, None, Ok}
use Rattle.hex.specs.Hex.{decode_sized}

-- exactly 64 hexadecimal digits, of either case, write the 32 octets of a key
abbrev pub IsKeyText : List ℕ → List ℕ → Type 0
IsKeyText text key = decode_sized text 32 ≡ Ok key

-- a key that is given
abbrev pub IsKeyAt : Option (List ℕ) → List ℕ → Type 0
IsKeyAt None key = ⊥
IsKeyAt (Some text) key = IsKeyText text key
