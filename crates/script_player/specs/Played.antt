-- What a run over a script did (our own).
use Rattle.std.specs.Prelude.{◌≡◌, ◌≢◌, ℕ, ◌+◌, ◌-◌, ◌<◌, ◌≤◌, ◌⊎◌, List, [], ◌∷◌, ◌++◌, length, flat_map, take, drop, min, slice_get, Option, Some, None}
use Rattle.std.specs.List.{AllByRecursion}
use Rattle.std.specs.Io.KnownBytes.{append_known}
use Rattle.pcp_base.specs.declared.configs.External.{External}
use Rattle.pcp_script.specs.Lines.{IsLine}
use Rattle.pcp_script.specs.declared.lines.Line.{Line}
use Rattle.pcp_script.specs.declared.lines.TheConstants.{LONGEST_LINE}
use Rattle.script_player.specs.Houses.{line_out, after_lines, out_of, houses_along}
use Rattle.script_player.specs.Scripts.{AreFirst, AreLines, IsUnbroken, ended}
use Rattle.script_player.specs.Ways.{Course}
use Rattle.script_player.specs.declared.player.PlayStatus.{PlayStatus}
use Rattle.script_player.specs.declared.player.PlayStatus.TheVariants.{Done, ScriptRefused, ReadFault, WriteFault, DiskFault, Memory}
use Rattle.script_player.specs.declared.player.TheConstants.{MOST_OCTETS}
use Rattle.script_player.specs.declared.readers.TheConstants.{PIECE}

-- what a source has left and what a sink holds, where they tell it
pub record Streams : Type 0 where
  pub left : Option (List ℕ)
  pub held : Option (List ℕ)

-- A source that had the one left, and has the other, as far as it tells: it had this script left, and
-- has this of it, or tells neither.
abbrev pub LeavesOf : (script left : List ℕ) → (before now : Option (List ℕ)) → Type 0
LeavesOf script left before now =
    ((before ≡ Some script) × (now ≡ Some left)) ⊎ ((before ≡ None) × (now ≡ None))

-- what is left of the script when a run is over, and what it wrote
pub record Outcome : Type 0 where
  pub left : List ℕ
  pub written : List ℕ

-- The texts are these lines, and they alone were answered: the house is that after them, each image
-- stood for the house after some first ones of them, and each image stands for the house now.
pub record AreDone {House : Type 0} (course : Course House) (texts : List (List ℕ))
    (lines : List Line) : Type 0 where
  pub read : AreLines (course.effects.externals course.begun) texts lines
  pub house : course.ended ≡ after_lines course.effects course.begun lines
  pub over : course.over (houses_along course.effects course.begun lines)
  pub at_end : course.at_end (after_lines course.effects course.begun lines ∷ [])

-- the texts are lines that were answered, they alone, and their results are what is written
pub record AreAnswered {House : Type 0} (course : Course House) (texts : List (List ℕ))
    (written : List ℕ) : Type 0 where
  pub lines : List Line
  pub done : AreDone course texts lines
  pub results : written ≡ out_of course.effects course.begun lines

-- how many octets of a script stand up to a line and its line feed, where this begins behind the
-- line
abbrev pub octets_through : (script tail : List ℕ) → ℕ
octets_through script tail = length script - length (drop 1 tail)

-- The next line is no line of a script: it is too long, or the script is by its end, line feed
-- included, or nothing is spelled so. The line is the text, whole: behind it stands its line feed,
-- or the script's end.
pub record IsRefused (externals : List External) (script text tail : List ℕ) : Type 0 where
  pub unbroken : IsUnbroken text
  pub whole : (tail ≡ []) ⊎ (slice_get tail 0 ≡ Some 10)
  pub some : (text ≢ []) ⊎ (tail ≢ [])
  pub refused : (LONGEST_LINE < length text)
      ⊎ ((MOST_OCTETS < octets_through script tail)
      ⊎ ((line : Line) → ¬ (IsLine externals text line)))

-- What was read, where this is left of the script: these lines, and at most so many octets behind.
pub record ReadsFew (script left : List ℕ) (texts : List (List ℕ)) (most : ℕ) : Type 0 where
  pub ahead : List ℕ
  pub spelled : script ≡ flat_map ended texts ++ ahead ++ left
  pub few : length ahead ≤ most

-- the octets of the next line that may be read, its line feed included, and one piece
abbrev pub most_for : List ℕ → ℕ
most_for text = min (length text + 1) (LONGEST_LINE + 1) + PIECE

-- every line is answered, and all was read
pub record EndsDone {House : Type 0} (course : Course House) (script : List ℕ)
    (outcome : Outcome) : Type 0 where
  pub texts : List (List ℕ)
  pub first : AreFirst script [] texts
  pub read : outcome.left ≡ []
  pub answered : AreAnswered course texts outcome.written

-- the lines before the n-th are answered, and that one is refused
pub record EndsRefused {House : Type 0} (course : Course House) (script : List ℕ) (n : ℕ)
    (outcome : Outcome) : Type 0 where
  pub texts : List (List ℕ)
  pub text : List ℕ
  pub tail : List ℕ
  pub first : AreFirst script (text ++ tail) texts
  pub number : n ≡ length texts + 1
  pub refused : IsRefused (course.effects.externals course.begun) script text tail
  pub read : ReadsFew script outcome.left texts (most_for text)
  pub answered : AreAnswered course texts outcome.written

-- every line is answered whose line feed was read
pub record EndsReading {House : Type 0} (course : Course House) (script : List ℕ)
    (outcome : Outcome) : Type 0 where
  pub texts : List (List ℕ)
  pub part : List ℕ
  pub spelled : script ≡ flat_map ended texts ++ part ++ outcome.left
  pub unbroken : AllByRecursion IsUnbroken texts
  pub unended : IsUnbroken part
  -- the line isn't too long yet, nor is the script
  pub short : length part ≤ LONGEST_LINE
  pub few : length (flat_map ended texts) + length part ≤ MOST_OCTETS
  pub answered : AreAnswered course texts outcome.written

-- some first lines are answered, and the result of the last of them is written in part, those
-- before it whole
pub record EndsWriting {House : Type 0} (course : Course House) (script : List ℕ)
    (outcome : Outcome) : Type 0 where
  pub texts : List (List ℕ)
  pub text : List ℕ
  pub lines : List Line
  pub line : Line
  pub rest : List ℕ
  pub first : AreFirst script rest (texts ++ text ∷ [])
  pub read : ReadsFew script outcome.left texts (most_for text)
  pub done : AreDone course (texts ++ text ∷ []) (lines ++ line ∷ [])
  pub result : List ℕ
  pub result_is : result ≡ line_out
      (course.effects.result_of (after_lines course.effects course.begun lines) line)
  pub taken : ℕ
  pub short : taken < length result
  pub written_is : outcome.written ≡
      out_of course.effects course.begun lines ++ take taken result

-- Some first lines are answered, and the next one wasn't, or isn't known to be: nothing of its
-- result is written, and each image stands for the house before it or after it.
pub record EndsInDoubt {House : Type 0} (course : Course House) (script : List ℕ)
    (outcome : Outcome) : Type 0 where
  pub texts : List (List ℕ)
  pub text : List ℕ
  pub lines : List Line
  pub line : Line
  pub rest : List ℕ
  pub first : AreFirst script rest (texts ++ text ∷ [])
  pub read : ReadsFew script outcome.left texts (most_for text)
  pub lines_read : AreLines (course.effects.externals course.begun)
      (texts ++ text ∷ []) (lines ++ line ∷ [])
  pub results : outcome.written ≡ out_of course.effects course.begun lines
  pub over : course.over (houses_along course.effects course.begun (lines ++ line ∷ []))
  pub at_end : course.at_end (houses_along course.effects
      (after_lines course.effects course.begun lines) (line ∷ []))

-- some first lines are answered, and at most one more is read
pub record EndsEarly {House : Type 0} (course : Course House) (script : List ℕ)
    (outcome : Outcome) : Type 0 where
  pub texts : List (List ℕ)
  pub rest : List ℕ
  pub first : AreFirst script rest texts
  pub read : ReadsFew script outcome.left texts (LONGEST_LINE + 1 + PIECE)
  pub answered : AreAnswered course texts outcome.written

-- What was read, answered and written, by the status.
abbrev pub IsPlayed : {House : Type 0} → Course House → (script : List ℕ) → Outcome →
    PlayStatus → Type 0
IsPlayed course script outcome Done = EndsDone course script outcome
IsPlayed course script outcome (ScriptRefused n) = EndsRefused course script n outcome
IsPlayed course script outcome ReadFault = EndsReading course script outcome
IsPlayed course script outcome WriteFault = EndsWriting course script outcome
IsPlayed course script outcome (DiskFault shard) = EndsInDoubt course script outcome
IsPlayed course script outcome Memory =
    EndsEarly course script outcome ⊎ EndsInDoubt course script outcome

-- A run over this script.
pub record IsOver {House : Type 0} (course : Course House) (script : List ℕ)
    (before now : Streams) (status : PlayStatus) : Type 0 where
  pub outcome : Outcome
  pub left_is : LeavesOf script outcome.left before.left now.left
  pub held_is : now.held ≡ append_known before.held outcome.written
  pub played : IsPlayed course script outcome status

-- What a crash may leave of a run over this script, whatever its status. Of the first lines of the
-- script these were answered, and the next one perhaps. What is written is of the results of these,
-- and nothing else. Each image stood for the house after some first ones of them, and each has all of
-- these now, of the next one perhaps.
pub record IsKept {House : Type 0} (course : Course House) (script : List ℕ)
    (before now : Streams) : Type 0 where
  pub texts : List (List ℕ)
  pub rest : List ℕ
  pub first : AreFirst script rest texts
  pub lines : List Line
  -- the next one, or none
  pub next : List Line
  pub few : length next ≤ 1
  pub read : AreLines (course.effects.externals course.begun) texts (lines ++ next)
  -- what isn't written of the results
  pub unsaid : List ℕ
  pub held_is : append_known now.held unsaid
      ≡ append_known before.held (out_of course.effects course.begun lines)
  pub over : course.over (houses_along course.effects course.begun (lines ++ next))
  pub at_end : course.at_end (houses_along course.effects
      (after_lines course.effects course.begun lines) next)

-- A run over some script, which is that of its source where that tells what it has left: what it did,
-- and what a crash may leave of it.
pub record HasRun {House : Type 0} (course : Course House) (before now : Streams)
    (status : PlayStatus) : Type 0 where
  pub script : List ℕ
  pub over : IsOver course script before now status
  pub kept : IsKept course script before now
