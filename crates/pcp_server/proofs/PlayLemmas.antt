-- A play over a house that was opened.
use Rattle.std.proofs.Common.{◌≡◌, ℕ, List, length, sym, subst}
use Rattle.pcp_base.specs.declared.configs.Config.{Config}
use Rattle.pcp_base.specs.Configs.{IsConfig}
use Rattle.pcp_script.specs.declared.lines.Line.{Line}
use Rattle.lease_disk.specs.declared.disks.DiskPair.{DiskPair}
use Rattle.lease_house.specs.SoloHouses.{HouseView}
use Rattle.script_player.specs.Played.{HasRun}
use Rattle.script_player.specs.Scripts.{AreLines}
use Rattle.script_player.specs.declared.player.PlayStatus.{PlayStatus}
use Rattle.house_lines.specs.LineLaws.{HousesAreOfEntries, LinesMakeHistories, line_calls}
use Rattle.lease_histories.specs.PlainHouses.{entries_along, house_begun}
use Rattle.lease_histories.specs.Promises.{HistoriesKeepPromises}
use Rattle.server_commands.specs.declared.statuses.Status.{Status}
use Rattle.pcp_server.specs.Opened.{AreUnused, Opens, openings, pairs_of}
use Rattle.pcp_server.specs.Outsides.{DiskMeanings, Input, Outside}
use Rattle.pcp_server.specs.Played.{EndsOver, house_course, streams_found, streams_of}
use Rattle.pcp_server.specs.Promises.{LinesKeepPromises}
use Rattle.pcp_server.specs.Statuses.{played_as}
use Rattle.pcp_server.proofs.OpeningLemmas.{are_openings, begun, unused}

pub lines-keep : HistoriesKeepPromises → LinesMakeHistories → HousesAreOfEntries →
    {D : Type 0} (disks : DiskMeanings D) (config : Config) (start : ℕ) (pairs : List (DiskPair D)) (house : HouseView D) → IsConfig config → Opens disks config start pairs house →
    (texts : List (List ℕ)) (lines : List Line) → AreLines config.externals texts lines → LinesKeepPromises config (openings house) lines
lines-keep keep make follow disks config start pairs house is o texts lines read =
    let are = are_openings disks config start pairs house is o in
    record {
      history = keep config (openings house) (entries_along (house_begun config (openings house)) (line_calls lines)) are (make config (openings house) texts lines are read);
      journals = λ h among. follow config (openings house) lines h among;
    }

-- the last case of a play
pub ends-over : HistoriesKeepPromises → LinesMakeHistories → HousesAreOfEntries →
    {S W D : Type 0} (disks : DiskMeanings D) (config : Config) (start : ℕ) (script_before script_now : Input S) (before now : Outside W D) (status : Status)
    (house ended : HouseView D) (play_status : PlayStatus) → IsConfig config → Opens disks config start before.pairs house → status ≡ played_as play_status →
    HasRun (house_course disks house ended) (streams_found house script_before before) (streams_of script_now now) play_status →
    now.pairs ≡ pairs_of ended → length ended.books ≡ length house.books → ended.spare ≡ house.spare →
    EndsOver disks config start script_before script_now before now status
ends-over keep make follow disks config start script_before script_now before now status house ended play_status is o told run pairs count spare = record {
  house = house;
  opened = o;
  begun = begun disks config start before.pairs house o;
  ended = ended;
  play_status = play_status;
  told = told;
  script = run.script;
  lines = run.over;
  crash = run.kept;
  promises = lines-keep keep make follow disks config start before.pairs house is o;
  pairs = pairs;
  unused = subst (λ ps. AreUnused config before.pairs ps) (sym pairs) (unused disks config start before.pairs house ended o count spare);
}
