-- Looks at a journal, and what is told behind them (our own).
use Rattle.std.specs.Prelude.{◌≡◌, ◌⊎◌, ℕ, ◌<◌, ◌≤◌, List, [], ◌∷◌, ◌++◌, length, map, Option, Some, None, option_map, Result, Ok, Err}
use Rattle.std.specs.List.{All}
use Rattle.pcp_base.specs.declared.configs.External.{External}
use Rattle.watch_lines.specs.declared.doubts.Doubt.{Doubt}
use Rattle.watch_readings.specs.declared.readings.Told.{Told}
use Rattle.watch_readings.specs.Copies.{sides_of}
use Rattle.watch_readings.specs.Readings.{IsReadOf, IsToldBy}
use Rattle.watch_readings.specs.Readings.OnceReading.{Doubtful}
use Rattle.watch_runs.specs.declared.links.Look.{Look}
use Rattle.watch_runs.specs.declared.links.LookFault.{LookFault}
use Rattle.watch_runs.specs.declared.links.LookFault.TheVariants.{File, Memory}

-- It is the next of what was left, where that is told. Where nothing was left, it can't be read.
abbrev pub IsNextLook : (before now : Option (List (Result Look LookFault)))
    → Result Look LookFault → Type 0
IsNextLook None now given = now ≡ None
IsNextLook (Some []) now given = (given ≡ Err File) × (now ≡ Some [])
IsNextLook (Some (next ∷ rest)) now given = (given ≡ next) × (now ≡ Some rest)

-- for want of memory there may be no look, and what was left stays
abbrev pub GivesLook : (before now : Option (List (Result Look LookFault)))
    → Result Look LookFault → Type 0
GivesLook before now given =
    IsNextLook before now given ⊎ ((given ≡ Err Memory) × (now ≡ before))

-- these looks were given, one behind the other
abbrev pub GaveLooks : (before : Option (List (Result Look LookFault))) → List Look
    → (now : Option (List (Result Look LookFault))) → Type 0
GaveLooks before looks now = before ≡ option_map (λ rest. map Ok looks ++ rest) now

-- no leases are told by it
abbrev pub IsInDoubt : Look → Type 0
IsInDoubt look = (doubt : Doubt) × IsReadOf (sides_of look.a look.b) (Doubtful doubt)

-- what is told by the next look
pub record IsToldNext (e : External) (shard : ℕ) (before now : Option (List (Result Look LookFault)))
    (told : Told) : Type 0 where
  pub look : Look
  pub gave : GaveLooks before (look ∷ []) now
  pub is : IsToldBy (sides_of look.a look.b) e shard look.time told

-- fewer looks than may be were given, each in doubt, and then the journal couldn't be read
pub record FailsFrom (most : ℕ) (before now : Option (List (Result Look LookFault))) : Type 0 where
  pub looks : List Look
  pub few : length looks < most
  pub doubted : All IsInDoubt looks
  pub behind : Option (List (Result Look LookFault))
  pub gave : GaveLooks before looks behind
  pub fails : IsNextLook behind now (Err File)

-- What is told of the journal of an external address behind these looks: by the first that isn't in
-- doubt, and where there are as many as may be, by the last one.
pub record IsToldAfter (most : ℕ) (e : External) (shard : ℕ) (looks : List Look) (told : Told)
    : Type 0 where
  pub earlier : List Look
  pub last : Look
  pub are : looks ≡ earlier ++ last ∷ []
  pub few : length looks ≤ most
  pub doubted : All IsInDoubt earlier
  pub is : IsToldBy (sides_of last.a last.b) e shard last.time told
  pub ends : (told.doubt ≡ None) ⊎ (length looks ≡ most)

-- the same of what a link gave from one moment to another
pub record IsToldFrom (most : ℕ) (e : External) (shard : ℕ)
    (before now : Option (List (Result Look LookFault))) (told : Told) : Type 0 where
  pub looks : List Look
  pub gave : GaveLooks before looks now
  pub is : IsToldAfter most e shard looks told
