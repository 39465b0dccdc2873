-- A run in the middle of its script (our own): what was read and answered so far.
use Rattle.std.specs.Prelude.{◌≡◌, ℕ, ◌+◌, ◌⊎◌, List, [], ◌∷◌, ◌++◌, length, flat_map, Option, Result, Ok, Err}
use Rattle.std.specs.List.{AllByRecursion}
use Rattle.std.specs.Io.KnownBytes.{prepend_known, append_known}
use Rattle.pcp_io.specs.Writes.{WritesPart}
use Rattle.pcp_script.specs.Lines.{IsLine}
use Rattle.pcp_script.specs.declared.lines.Line.{Line}
use Rattle.pcp_script.specs.declared.lines.LineRefused.{LineRefused}
use Rattle.pcp_script.specs.declared.lines.LineRefused.TheVariants as Refused
use Rattle.pcp_script.specs.declared.lines.TheConstants.{LONGEST_LINE}
use Rattle.script_player.specs.Houses.{after_lines, houses_along, line_out, out_of}
use Rattle.script_player.specs.Played.{HasRun, Streams}
use Rattle.script_player.specs.Reading.{Reading, rest_of}
use Rattle.script_player.specs.Scripts.{AreLines, IsUnbroken, ended}
use Rattle.script_player.specs.Ways.{Course}
use Rattle.script_player.specs.declared.answerers.AnswerFault.{AnswerFault}
use Rattle.script_player.specs.declared.answerers.AnswerFault.TheVariants as Answering
use Rattle.script_player.specs.declared.faults.LineFault.{LineFault}
use Rattle.script_player.specs.declared.faults.LineFault.TheVariants.{Read, NotLine, Write, Disk, Memory}
use Rattle.script_player.specs.declared.player.PlayStatus.{PlayStatus}
use Rattle.script_player.specs.declared.player.PlayStatus.TheVariants as Statuses
use Rattle.script_player.specs.declared.player.TheConstants.{MOST_OCTETS}
use Rattle.script_player.specs.declared.readers.Ending.{Ending}
use Rattle.script_player.specs.declared.readers.Ending.TheVariants as Endings
use Rattle.script_player.specs.declared.readers.Limits.{Limits}

-- how much a script and its lines may hold
abbrev pub script_limits : Limits
script_limits = record { longest = LONGEST_LINE; most = MOST_OCTETS }

-- These lines were read, each with its line feed, and answered, before the one with this number.
pub record IsUnderway {House : Type 0} (course : Course House) (before : Streams) (number : ℕ)
    (reading : Reading) (now : Streams) : Type 0 where
  pub limited : reading.limits ≡ script_limits
  pub texts : List (List ℕ)
  pub lines : List Line
  pub read : AreLines (course.effects.externals course.begun) texts lines
  pub unbroken : AllByRecursion IsUnbroken texts
  pub count : number ≡ length texts + 1
  pub script_is : before.left ≡
      prepend_known (flat_map ended texts) (rest_of reading now.left)
  pub used : reading.used ≡ length (flat_map ended texts)
  pub house : course.ended ≡ after_lines course.effects course.begun lines
  pub over : course.over (houses_along course.effects course.begun lines)
  pub held_is : now.held ≡ append_known before.held (out_of course.effects course.begun lines)

-- the status of a fault at the line with this number
abbrev pub status_at : ℕ → LineFault → PlayStatus
status_at number Read = Statuses.ReadFault
status_at number NotLine = Statuses.ScriptRefused number
status_at number Write = Statuses.WriteFault
status_at number (Disk shard) = Statuses.DiskFault shard
status_at number Memory = Statuses.Memory

-- a turn goes on to the next line, or ends the run
abbrev pub IsTurned : {House : Type 0} → Course House → (before : Streams) → (number : ℕ) →
    Reading → (now : Streams) → Result Ending LineFault → Type 0
IsTurned course before number reading now (Ok Endings.Feed) =
    IsUnderway course before (number + 1) reading now
IsTurned course before number reading now (Ok ending) = HasRun course before now Statuses.Done
IsTurned course before number reading now (Err fault) =
    HasRun course before now (status_at number fault)

-- a text that is no line, and want of memory, are told as they are
abbrev pub fault_of_line : LineRefused → LineFault
fault_of_line Refused.NotLine = NotLine
fault_of_line Refused.Memory = Memory

abbrev pub fault_of_answer : AnswerFault → LineFault
fault_of_answer (Answering.Disk shard) = Disk shard
fault_of_answer Answering.Memory = Memory

-- nothing was done
pub record IsStill {House : Type 0} (course : Course House) : Type 0 where
  pub house : course.ended ≡ course.begun
  pub over : course.over (course.begun ∷ [])
  pub at_end : course.at_end (course.begun ∷ [])

-- the text is a line, and the house is that before it, or that after it
pub record IsInDoubt {House : Type 0} (course : Course House) (text : List ℕ) : Type 0 where
  pub line : Line
  pub read : IsLine (course.effects.externals course.begun) text line
  pub over : course.over (course.begun ∷ course.effects.after course.begun line ∷ [])
  pub at_end : course.at_end (course.begun ∷ course.effects.after course.begun line ∷ [])

-- the text is a line that was answered
pub record IsDone {House : Type 0} (course : Course House) (text : List ℕ) (line : Line)
    : Type 0 where
  pub read : IsLine (course.effects.externals course.begun) text line
  pub house : course.ended ≡ course.effects.after course.begun line
  pub over : course.over (course.begun ∷ course.effects.after course.begun line ∷ [])
  pub at_end : course.at_end (course.effects.after course.begun line ∷ [])

-- the text is a line, and its result is written
pub record Answers {House : Type 0} (course : Course House) (text : List ℕ)
    (before now : Option (List ℕ)) : Type 0 where
  pub line : Line
  pub done : IsDone course text line
  pub held_is : now ≡ append_known before (line_out (course.effects.result_of course.begun line))

-- the text is a line, and its result is written in part
pub record AnswersPart {House : Type 0} (course : Course House) (text : List ℕ)
    (before now : Option (List ℕ)) : Type 0 where
  pub line : Line
  pub done : IsDone course text line
  pub part : WritesPart before now (line_out (course.effects.result_of course.begun line))

-- what a fault at a text that was read leaves
abbrev pub Fails : {House : Type 0} → Course House → List ℕ → (before now : Option (List ℕ)) →
    LineFault → Type 0
Fails course text before now Read = ⊥
Fails course text before now NotLine =
    ((line : Line) → ¬ (IsLine (course.effects.externals course.begun) text line))
    × (now ≡ before) × IsStill course
Fails course text before now Write = AnswersPart course text before now
Fails course text before now (Disk shard) = IsInDoubt course text × (now ≡ before)
Fails course text before now Memory = (IsStill course ⊎ IsInDoubt course text) × (now ≡ before)
