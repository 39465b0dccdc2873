-- What a reader of lines does with a source (our own).
use Rattle.std.specs.Prelude.{◌≡◌, ◌≢◌, ℕ, ◌+◌, ◌≤◌, ◌⊎◌, List, [], ◌∷◌, ◌++◌, length, Option}
use Rattle.std.specs.Io.KnownBytes.{prepend_known, IsAtEnd}
use Rattle.script_player.specs.Scripts.{IsUnbroken}
use Rattle.script_player.specs.declared.faults.LineFault.{LineFault}
use Rattle.script_player.specs.declared.faults.LineFault.TheVariants.{Read, NotLine, Write, Disk, Memory}
use Rattle.script_player.specs.declared.readers.Ending.{Ending}
use Rattle.script_player.specs.declared.readers.Ending.TheVariants.{Feed, Last, End}
use Rattle.script_player.specs.declared.readers.Limits.{Limits}
use Rattle.script_player.specs.declared.readers.TheConstants.{PIECE}

pub record Reading : Type 0 where
  -- octets that were read and not used
  pub pending : List ℕ
  -- how many octets were used
  pub used : ℕ
  pub limits : Limits

-- the octets that were read and not used stand within the buffer, and no more are used than may be
pub record HasBounds (start end used : ℕ) (limits : Limits) : Type 0 where
  pub ordered : start ≤ end
  pub buffered : end ≤ PIECE
  pub few : used ≤ limits.most

-- what is not used of the source, where it tells what it has left
abbrev pub rest_of : Reading → Option (List ℕ) → Option (List ℕ)
rest_of reading left = prepend_known reading.pending left

-- these next octets of a line were used, and no others
pub record Uses (limits : Limits) (old new : Reading) (before now : Option (List ℕ))
    (text : List ℕ) : Type 0 where
  pub piece : length new.pending ≤ PIECE
  pub unbroken : IsUnbroken text
  pub octets : rest_of old before ≡ prepend_known text (rest_of new now)
  pub used : new.used ≡ old.used + length text
  pub few : new.used ≤ limits.most

-- a line, and the line feed behind it
pub record EndsByFeed (limits : Limits) (old new : Reading) (before now : Option (List ℕ))
    (text : List ℕ) : Type 0 where
  pub piece : length new.pending ≤ PIECE
  pub unbroken : IsUnbroken text
  pub octets : rest_of old before ≡ prepend_known (text ++ 10 ∷ []) (rest_of new now)
  pub used : new.used ≡ old.used + length text + 1
  pub few : new.used ≤ limits.most
  pub short : length text ≤ limits.longest

-- the last line, which has no line feed
pub record EndsLast (limits : Limits) (old new : Reading) (before now : Option (List ℕ))
    (text : List ℕ) : Type 0 where
  pub uses : Uses limits old new before now text
  pub some : text ≢ []
  pub short : length text ≤ limits.longest
  pub none_pending : new.pending ≡ []
  pub none_left : IsAtEnd now

-- nothing was left
pub record EndsAll (limits : Limits) (old new : Reading) (before now : Option (List ℕ))
    (text : List ℕ) : Type 0 where
  pub uses : Uses limits old new before now text
  pub none : text ≡ []
  pub none_pending : new.pending ≡ []
  pub none_left : IsAtEnd now

abbrev pub Ends : Limits → Reading → Reading → Option (List ℕ) → Option (List ℕ) → List ℕ →
    Ending → Type 0
Ends limits old new before now text Feed = EndsByFeed limits old new before now text
Ends limits old new before now text Last = EndsLast limits old new before now text
Ends limits old new before now text End = EndsAll limits old new before now text

-- the line is too long, or its next octet, which may be its line feed, is one too many
pub record StopsRefusing (limits : Limits) (old new : Reading) (before now : Option (List ℕ))
    (text : List ℕ) : Type 0 where
  pub uses : Uses limits old new before now text
  pub refused : (length text ≡ limits.longest + 1)
      ⊎ ((new.used ≡ limits.most) × (new.pending ≢ []) × (length text ≤ limits.longest))

-- no memory was found for more of the line
pub record StopsForMemory (limits : Limits) (old new : Reading) (before now : Option (List ℕ))
    (text : List ℕ) : Type 0 where
  pub uses : Uses limits old new before now text
  pub short : length text ≤ limits.longest

-- the source failed, when all that had been read was used
pub record StopsReading (limits : Limits) (old new : Reading) (before now : Option (List ℕ))
    (text : List ℕ) : Type 0 where
  pub uses : Uses limits old new before now text
  pub short : length text ≤ limits.longest
  pub none_pending : new.pending ≡ []

-- a reader knows nothing of a sink or a disk
abbrev pub Stops : Limits → Reading → Reading → Option (List ℕ) → Option (List ℕ) → List ℕ →
    LineFault → Type 0
Stops limits old new before now text Read = StopsReading limits old new before now text
Stops limits old new before now text NotLine = StopsRefusing limits old new before now text
Stops limits old new before now text Write = ⊥
Stops limits old new before now text (Disk shard) = ⊥
Stops limits old new before now text Memory = StopsForMemory limits old new before now text
