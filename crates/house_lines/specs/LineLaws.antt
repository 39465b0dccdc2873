-- The lines of a script as calls of a house (our own).
use Rattle.std.specs.Prelude.{◌≡◌, ℕ, List, [], ◌∷◌, ◌++◌, filter_map, slice_get, Contains, Option, Some, None}
use Rattle.pcp_base.specs.declared.configs.Config.{Config}
use Rattle.pcp_base.specs.States.{State}
use Rattle.pcp_script.specs.declared.lines.Line.{Line}
use Rattle.pcp_script.specs.declared.lines.Line.TheVariants as Lines
use Rattle.script_player.specs.Houses.{after_lines, houses_along}
use Rattle.script_player.specs.Scripts.{AreLines}
use Rattle.lease_histories.specs.HouseHistories.{IsSoloHistory, entries_at}
use Rattle.lease_histories.specs.Laws.{AreOpenings}
use Rattle.lease_histories.specs.Legal.{state_after}
use Rattle.lease_histories.specs.PlainHouses.{HouseCall, Loss, Packet, PlainHouse, PlainShard, call_after, entries_along, house_begun}
use Rattle.house_lines.specs.HouseEffects.{house_effects}

-- the call that a line makes: of lines a datagram and a loss alone may change a house
abbrev pub line_call : Line → Option HouseCall
line_call Lines.Skip = None
line_call (Lines.Packet now from) = Some (Packet now from)
line_call (Lines.Look m shard protocol port remote remote_port) = None
line_call (Lines.Lose now shard) = Some (Loss now shard)
line_call (Lines.Owners m shard) = None

abbrev pub line_calls : List Line → List HouseCall
line_calls lines = filter_map line_call lines

-- the house after these calls
abbrev pub after_calls : PlainHouse → List HouseCall → PlainHouse
after_calls house [] = house
after_calls house (call ∷ calls) = after_calls (call_after house call) calls

-- lines do what their calls do
abbrev pub LinesAreCalls : Type 0
LinesAreCalls = (house : PlainHouse) (lines : List Line) →
    after_lines house_effects house lines ≡ after_calls house (line_calls lines)

-- The entries of the lines of a script make a history of the house.
abbrev pub LinesMakeHistories : Type 0
LinesMakeHistories = (config : Config) (openings : List State) (texts : List (List ℕ))
    (lines : List Line) → AreOpenings config openings →
    AreLines config.externals texts lines → IsSoloHistory config openings
    (entries_along (house_begun config openings) (line_calls lines))

-- the first of the lines lead to the house: each external address has the state of their entries
pub record IsAlong (config : Config) (openings : List State) (lines : List Line)
    (house : PlainHouse) : Type 0 where
  pub front : List Line
  pub back : List Line
  pub lines_are : lines ≡ front ++ back
  pub house_is : house ≡ after_lines house_effects (house_begun config openings) front
  pub states : (place : ℕ) (opening : State) (shard : PlainShard) →
      slice_get openings place ≡ Some opening → slice_get house.shards place ≡ Some shard →
      shard.state ≡ state_after opening (entries_at place
      (entries_along (house_begun config openings) (line_calls front)))

-- So it is of each house along the lines.
abbrev pub HousesAreOfEntries : Type 0
HousesAreOfEntries = (config : Config) (openings : List State) (lines : List Line)
    (house : PlainHouse) →
    Contains (houses_along house_effects (house_begun config openings) lines) house →
    IsAlong config openings lines house
