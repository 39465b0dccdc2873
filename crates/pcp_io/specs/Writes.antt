-- What a write does to the octets that a sink holds, where it tells them (our own).
use Rattle.std.specs.Prelude.{◌≡◌, ℕ, ◌<◌, ◌≤◌, List, length, take, Option}
use Rattle.std.specs.Io.KnownBytes.{append_known}

-- the first n octets of the piece were taken, at least one where there is one
pub record Writes (before now : Option (List ℕ)) (piece : List ℕ) (n : ℕ) : Type 0 where
  pub bound : n ≤ length piece
  pub some : 0 < length piece → 0 < n
  pub octets : now ≡ append_known before (take n piece)

-- some first octets were taken, and not all
pub record WritesPart (before now : Option (List ℕ)) (octets : List ℕ) : Type 0 where
  pub taken : ℕ
  pub short : taken < length octets
  pub front : now ≡ append_known before (take taken octets)
