-- How a `load` ends, and what it leaves (our own).
use Rattle.std.specs.Prelude.{◌≡◌, ◌⊎◌, ℕ, List, map, Option}
use Rattle.std.specs.Io.KnownBytes.{append_known}
use Rattle.pcp_base.specs.declared.configs.Config.{Config}
use Rattle.pcp_base.specs.States.{State}
use Rattle.pcp_io.specs.Writes.{WritesPart}
use Rattle.pcp_script.specs.declared.lines.Line.{Line}
use Rattle.pcp_script.specs.declared.lines.Line.TheVariants.{Packet}
use Rattle.script_player.specs.Houses.{houses_along}
use Rattle.lease_histories.specs.PlainHouses.{PlainHouse, house_begun}
use Rattle.lease_house.specs.SoloHouses.{HouseView, plain_house}
use Rattle.lease_house.specs.HouseImages.{HouseLeavesOnly}
use Rattle.house_lines.specs.HouseEffects.{house_effects}
use Rattle.house_lines.specs.LoadEffects.{load_effects}
use Rattle.load_player.specs.LoadEnds.{EndsLoad, LoadCourse, load_course}
use Rattle.load_player.specs.LoadRuns.{TimedRequest, houses_past, load_text, planned_to}
use Rattle.load_player.specs.declared.player.LoadStatus.{LoadStatus}
use Rattle.load_player.specs.declared.player.LoadStatus.TheVariants.{Done, WriteFault, DiskFault, Memory}
use Rattle.server_commands.specs.declared.commands.LoadPlan.{LoadPlan}
use Rattle.server_commands.specs.declared.statuses.Status.{Status}
use Rattle.pcp_server.specs.Opened.{Accepts, AreUnused, EndsUnopened, EndsUnread, Opens, openings, pairs_of}
use Rattle.pcp_server.specs.Outsides.{DiskMeanings, Outside}
use Rattle.pcp_server.specs.Promises.{LinesKeepPromises}
use Rattle.pcp_server.specs.Statuses.{loaded_as}

-- what is written of the summary, by the status
abbrev pub SumsUp : {W D : Type 0} → List ℕ → (before now : Outside W D) → LoadStatus → Type 0
SumsUp text before now Done = now.held ≡ append_known before.held text
SumsUp text before now WriteFault = WritesPart before.held now.held text
SumsUp text before now (DiskFault shard) = now.out ≡ before.out
SumsUp text before now Memory = now.out ≡ before.out

-- what became of a house whose requests were served
abbrev pub served_course : {D : Type 0} → DiskMeanings D → (old new : HouseView D) →
    LoadCourse PlainHouse
served_course disks old new = load_course load_effects plain_house
    (HouseLeavesOnly disks.tells disks.moment disks.left_since disks.may_leave) old new

-- the lines of a script that bring these requests
abbrev pub lines_of : List TimedRequest → List Line
lines_of requests = map (λ r. Packet r.moment r.from) requests

-- Requests that are served from these opening states on do what such lines do, of which the promises
-- hold.
pub record RequestsKeepPromises (config : Config) (openings : List State)
    (requests : List TimedRequest) : Type 0 where
  pub as_lines : houses_past load_effects (house_begun config openings) requests
      ≡ houses_along house_effects (house_begun config openings) (lines_of requests)
  pub lines : LinesKeepPromises config openings (lines_of requests)

-- The journals were opened, and requests were served.
pub record EndsServed {W D : Type 0} (disks : DiskMeanings D) (config : Config) (plan : LoadPlan)
    (before now : Outside W D) (status : Status) : Type 0 where
  pub house : HouseView D
  pub opened : Opens disks config plan.start before.pairs house
  -- it begins with the states that were found, or made
  pub begun : plain_house house ≡ house_begun config (openings house)
  pub ended : HouseView D
  pub load_status : LoadStatus
  pub told : status ≡ loaded_as load_status
  pub summary : SumsUp (load_text load_effects (plain_house house) plan) before now load_status
  -- which requests were served, and what a crash may leave of the journals
  pub requests : EndsLoad (served_course disks house ended) plan load_status
  -- what holds of the first n requests
  pub promises : (n : ℕ) →
      RequestsKeepPromises config (openings house) (planned_to plan n)
  -- all pairs come back in order, and those of no external address had no call
  pub pairs : now.pairs ≡ pairs_of ended
  pub unused : AreUnused config before.pairs now.pairs

-- how a load over this configuration ended
abbrev pub LoadsServed : {W D : Type 0} → DiskMeanings D → Config → LoadPlan →
    (before now : Outside W D) → Status → Type 0
LoadsServed disks config plan before now status =
    EndsUnopened disks config plan.start before now status
    ⊎ EndsServed disks config plan before now status

-- How a load ended: at its configuration, at the opening of a journal, or in its requests or behind
-- them.
abbrev pub Loads : {W D : Type 0} → DiskMeanings D → LoadPlan →
    (source_before source_now : Option (List ℕ)) → (before now : Outside W D) → Status → Type 0
Loads disks plan source_before source_now before now status =
    EndsUnread source_before source_now before now status
    ⊎ ((config : Config) × Accepts source_before source_now config
    × LoadsServed disks config plan before now status)
