-- What a read does to the octets that a source has left, where it tells them (our own).
use Rattle.std.specs.Prelude.{◌≡◌, ℕ, ◌<◌, ◌≤◌, ◌↔◌, List, [], length, take, drop, Option, IfSome}
use Rattle.std.specs.Io.KnownBytes.{prepend_known}

-- n octets that were left stand in the front of the piece, which was old and is new
pub record Reads (before now : Option (List ℕ)) (old new : List ℕ) (n : ℕ) : Type 0 where
  pub bound : n ≤ length new
  pub octets : before ≡ prepend_known (take n new) now
  -- behind them the piece is as before
  pub rest : drop n new ≡ drop n old
  -- none come where none was left, and only there
  pub «end» : IfSome before (λ xs. 0 < length new → ((n ≡ 0) ↔ (xs ≡ [])))
