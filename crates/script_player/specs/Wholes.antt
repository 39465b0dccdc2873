-- What is read where a source is read to its end or past a limit (our own).
use Rattle.std.specs.Prelude.{◌≡◌, ℕ, ◌+◌, ◌≤◌, List, length, Option}
use Rattle.std.specs.Io.KnownBytes.{prepend_known, IsAtEnd}
use Rattle.script_player.specs.declared.readers.TheConstants.{PIECE}
use Rattle.script_player.specs.declared.wholes.WholeFault.{WholeFault}
use Rattle.script_player.specs.declared.wholes.WholeFault.TheVariants.{TooLong, Read, Memory}

-- these octets were read, all that there were, and they aren't too many
pub record ReadsWhole (most : ℕ) (before now : Option (List ℕ)) (text : List ℕ) : Type 0 where
  pub octets : before ≡ prepend_known text now
  pub none_left : IsAtEnd now
  pub few : length text ≤ most

-- some first octets were read, of which these numbers are true
pub record ReadsSome (before now : Option (List ℕ)) (least most : ℕ) : Type 0 where
  pub ahead : List ℕ
  pub octets : before ≡ prepend_known ahead now
  pub enough : least ≤ length ahead
  pub few : length ahead ≤ most

-- what was read where there is no whole text: no further piece behind one that passes the limit
abbrev pub StopsWhole : ℕ → (before now : Option (List ℕ)) → WholeFault → Type 0
StopsWhole most before now TooLong = ReadsSome before now (most + 1) (most + PIECE)
StopsWhole most before now Read = ReadsSome before now 0 most
StopsWhole most before now Memory = ReadsSome before now 0 (most + PIECE)
