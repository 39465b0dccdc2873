-- What is promised of lines that are played (our own).
use Rattle.std.specs.Prelude.{List, Contains}
use Rattle.pcp_base.specs.declared.configs.Config.{Config}
use Rattle.pcp_base.specs.States.{State}
use Rattle.lease_histories.specs.PlainHouses.{PlainHouse, entries_along, house_begun}
use Rattle.lease_histories.specs.Promises.{HouseKeepsPromises}
use Rattle.pcp_script.specs.declared.lines.Line.{Line}
use Rattle.script_player.specs.Houses.{houses_along}
use Rattle.house_lines.specs.HouseEffects.{house_effects}
use Rattle.house_lines.specs.LineLaws.{IsAlong, line_calls}

-- Of lines that are played from these opening states on: their entries keep the promises, and each
-- house along them, and so each state that a journal stands for, is that of some first entries.
pub record LinesKeepPromises (config : Config) (openings : List State) (lines : List Line)
    : Type 0 where
  pub history : HouseKeepsPromises config openings
      (entries_along (house_begun config openings) (line_calls lines))
  pub journals : (house : PlainHouse) →
      Contains (houses_along house_effects (house_begun config openings) lines) house →
      IsAlong config openings lines house
