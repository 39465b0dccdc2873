-- How a `play` ends, and what it leaves (our own).
use Rattle.std.specs.Prelude.{◌≡◌, ◌⊎◌, ◌<◌, ℕ, List, length, take, flat_map, Option}
use Rattle.std.specs.Io.KnownBytes.{append_known}
use Rattle.pcp_base.specs.declared.configs.Config.{Config}
use Rattle.pcp_io.specs.Writes.{WritesPart}
use Rattle.pcp_script.specs.Results.{reply_line}
use Rattle.pcp_script.specs.declared.lines.Line.{Line}
use Rattle.script_player.specs.Played.{IsKept, IsOver, Streams}
use Rattle.script_player.specs.Scripts.{AreLines}
use Rattle.script_player.specs.Ways.{Course, course_of}
use Rattle.script_player.specs.declared.player.PlayStatus.{PlayStatus}
use Rattle.lease_histories.specs.PlainHouses.{PlainHouse, house_begun}
use Rattle.lease_house.specs.SoloHouses.{HouseView, plain_house}
use Rattle.lease_house.specs.SoloOpenings.{updates_of}
use Rattle.lease_house.specs.HouseImages.{HouseLeavesOnly}
use Rattle.house_lines.specs.HouseEffects.{house_effects}
use Rattle.server_commands.specs.declared.statuses.Status.{Status}
use Rattle.server_commands.specs.declared.statuses.Status.TheVariants.{Done, WordsRefused, ConfigRefused, ScriptRefused, ReadFault, WriteFault, DiskFault, Memory}
use Rattle.pcp_server.specs.Opened.{Accepts, AreUnused, EndsUnopened, EndsUnread, Opens, openings, pairs_of}
use Rattle.pcp_server.specs.Outsides.{DiskMeanings, Input, Outside}
use Rattle.pcp_server.specs.Promises.{LinesKeepPromises}
use Rattle.pcp_server.specs.Statuses.{played_as}

-- ---- updates

-- a `reply` line for each update of the renumbered external addresses, in order
abbrev pub updates_text : {D : Type 0} → HouseView D → List ℕ
updates_text house = flat_map reply_line (updates_of house)

-- nothing was written of the text, or some first octets and not all
pub record WritesFront (before now : Option (List ℕ)) (text : List ℕ) : Type 0 where
  pub taken : ℕ
  pub few : (taken ≡ 0) ⊎ (taken < length text)
  pub front : now ≡ append_known before (take taken text)

-- what is written where not all updates are
abbrev pub IsUntold : List ℕ → (before now : Option (List ℕ)) → Status → Type 0
IsUntold text before now WriteFault = WritesPart before now text
IsUntold text before now Memory = WritesFront before now text
IsUntold text before now Done = ⊥
IsUntold text before now WordsRefused = ⊥
IsUntold text before now (ConfigRefused cause) = ⊥
IsUntold text before now (ScriptRefused line) = ⊥
IsUntold text before now ReadFault = ⊥
IsUntold text before now (DiskFault shard) = ⊥

-- The journals were opened, and not all updates are written. No journal has a record of a line.
pub record EndsUntold {W D : Type 0} (disks : DiskMeanings D) (config : Config) (start : ℕ)
    (before now : Outside W D) (status : Status) : Type 0 where
  pub house : HouseView D
  pub opened : Opens disks config start before.pairs house
  pub updates : IsUntold (updates_text house) before.held now.held status
  pub pairs : now.pairs ≡ pairs_of house
  pub unused : AreUnused config before.pairs now.pairs

-- ---- the script

-- what became of a house whose lines were answered
abbrev pub house_course : {D : Type 0} → DiskMeanings D → (old new : HouseView D) →
    Course PlainHouse
house_course disks old new = course_of house_effects plain_house
    (HouseLeavesOnly disks.tells disks.moment disks.left_since disks.may_leave) old new

-- What the script finds: what its source has left, and a sink that holds what it held and the updates.
abbrev pub streams_found : {S W D : Type 0} → HouseView D → Input S → Outside W D → Streams
streams_found house script before =
    record { left = script.left; held = append_known before.held (updates_text house) }

abbrev pub streams_of : {S W D : Type 0} → Input S → Outside W D → Streams
streams_of script now = record { left = script.left; held = now.held }

-- The updates are written, and the script was played.
pub record EndsOver {S W D : Type 0} (disks : DiskMeanings D) (config : Config) (start : ℕ)
    (script_before script_now : Input S) (before now : Outside W D) (status : Status)
    : Type 0 where
  pub house : HouseView D
  pub opened : Opens disks config start before.pairs house
  -- it begins with the states that were found, or made
  pub begun : plain_house house ≡ house_begun config (openings house)
  pub ended : HouseView D
  pub play_status : PlayStatus
  pub told : status ≡ played_as play_status
  -- what its source had left, where that tells it
  pub script : List ℕ
  -- what was read, answered and written, by the status
  pub lines : IsOver (house_course disks house ended) script
      (streams_found house script_before before) (streams_of script_now now) play_status
  -- what a crash may leave of the journals, at each moment and at the end, whatever the status
  pub crash : IsKept (house_course disks house ended) script
      (streams_found house script_before before) (streams_of script_now now)
  -- what holds of all lines that may be read, and so of those that were answered
  pub promises : (texts : List (List ℕ)) (lines : List Line) →
      AreLines config.externals texts lines → LinesKeepPromises config (openings house) lines
  -- all pairs come back in order, and those of no external address had no call
  pub pairs : now.pairs ≡ pairs_of ended
  pub unused : AreUnused config before.pairs now.pairs

-- ---- all of it

-- how a play of this configuration ended
abbrev pub PlaysServed : {S W D : Type 0} → DiskMeanings D → Config → (start : ℕ) →
    (script_before script_now : Input S) → (before now : Outside W D) → Status → Type 0
PlaysServed disks config start script_before script_now before now status =
    ((EndsUnopened disks config start before now status
    ⊎ EndsUntold disks config start before now status) × (script_now ≡ script_before))
    ⊎ EndsOver disks config start script_before script_now before now status

-- How a play ended: at its configuration, at the opening of a journal, at the updates, or in the
-- script or behind it. The script is read in the last case alone.
abbrev pub Plays : {S W D : Type 0} → DiskMeanings D → (start : ℕ) →
    (source_before source_now : Option (List ℕ)) → (script_before script_now : Input S) →
    (before now : Outside W D) → Status → Type 0
Plays disks start source_before source_now script_before script_now before now status =
    (EndsUnread source_before source_now before now status × (script_now ≡ script_before))
    ⊎ ((config : Config) × Accepts source_before source_now config
    × PlaysServed disks config start script_before script_now before now status)
