-- What a reader of lines keeps while it reads one.
use Rattle.std.proofs.Common.{◌≡◌, ℕ, ◌+◌, ◌≤◌, List, length, Option}
use Rattle.std.specs.Io.KnownBytes.{prepend_known}
use Rattle.script_player.specs.Reading.{Reading, rest_of}
use Rattle.script_player.specs.Scripts.{IsUnbroken}

-- the text so far has no line feed, and its octets were used
pub record Goes (old now : Reading) (before left : Option (List ℕ)) (text : List ℕ) : Type 0 where
  pub unbroken : IsUnbroken text
  pub octets : rest_of old before ≡ prepend_known text (rest_of now left)
  pub used : now.used ≡ old.used + length text
  pub short : length text ≤ old.limits.longest
  pub limits : now.limits ≡ old.limits
