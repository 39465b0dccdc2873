-- How a turn of `keep` went, and what goes before the first one (our own; for private contracts).
use Rattle.std.specs.Prelude.{◌≡◌, ℕ, ◌≤◌, true, List, [], ◌∷◌, length, Option, Some, None, option_to_list, Result, Ok, Err}
use Rattle.std.specs.Io.KnownBytes.{append_known}
use Rattle.pcp_base.specs.declared.addresses.Address.{Address}
use Rattle.pcp_base.specs.declared.addresses.Nonce.{Nonce}
use Rattle.pcp_base.specs.declared.datagrams.Datagram.{Datagram}
use Rattle.pcp_io.specs.Faults.{HasRisen}
use Rattle.pcp_io.specs.Times.{IsTimeNow, Times}
use Rattle.pcp_io.specs.Writes.{WritesPart}
use Rattle.client_words.specs.declared.keeps.KeepAsk.{KeepAsk}
use Rattle.client_runs.specs.Calls.{NonceBy}
use Rattle.client_runs.specs.Links.{Drawing, RequestsWent, Sending, WordsDrawn}
use Rattle.client_runs.specs.Openings.{LacksWord}
use Rattle.client_runs.specs.declared.tries.Unanswered.{Unanswered}
use Rattle.client_runs.specs.declared.tries.Unanswered.TheVariants as Reasons
use Rattle.tool_commands.specs.declared.statuses.ToolStatus.{ToolStatus}
use Rattle.tool_commands.specs.declared.statuses.ToolStatus.TheVariants as Statuses
use Rattle.keep_runs.specs.Ends.{EndsKeep, Keeps, Outside}
use Rattle.keep_runs.specs.Keeping.{Turn, has_use, keeper_of, kept, lines_by, requests_by, turned_by, words_by}
use Rattle.keep_runs.specs.declared.keepers.Keeper.{Keeper}

-- the lines of a step were printed and its request was sent, or they weren't all printed
abbrev pub Acts : Address → List ℕ → Option (List ℕ) → Option ToolStatus →
    (before now : Option (List ℕ)) → (faults later : ℕ) → (old new : Sending) → Type 0
Acts server lines request None before now faults later old new =
    (now ≡ append_known before lines) × (faults ≤ later)
    × RequestsWent server (option_to_list request) old new
Acts server lines request (Some Statuses.WriteFault) before now faults later old new =
    WritesPart before now lines × HasRisen faults later × (new ≡ old)
Acts server lines request (Some other) before now faults later old new = ⊥

-- what entropy, outbox and sink tell
pub record Sides : Type 0 where
  pub drawing : Drawing
  pub sending : Sending
  pub held : Option (List ℕ)
  pub faults : ℕ

-- nothing was sent or printed
abbrev pub Stays : Sides → Sides → Type 0
Stays old new = (new.sending ≡ old.sending) × (new.held ≡ old.held) × (new.faults ≡ old.faults)

module _ (server : Address) (k after : Keeper) (packet : Option Datagram) (time : ℕ)
    (old new : Sides) where
  -- it was done
  pub record DoesTurn : Type 0 where
    pub word : ℕ
    pub keeper : after ≡ turned_by k packet time word
    pub words : WordsDrawn (words_by k packet time word) old.drawing new.drawing
    pub requests : RequestsWent server (requests_by k packet time word) old.sending new.sending
    pub lines : new.held ≡ append_known old.held (lines_by k packet time word)
    pub later : old.faults ≤ new.faults

  -- no word was found
  pub record LacksItsWord : Type 0 where
    pub needed : has_use k packet time ≡ true
    pub words : WordsDrawn [] old.drawing new.drawing
    pub fault : HasRisen old.drawing.faults new.drawing.faults
    pub stays : Stays old new

  -- no memory
  pub record LacksMemory : Type 0 where
    pub drawn : List ℕ
    pub few : length drawn ≤ 1
    pub words : WordsDrawn drawn old.drawing new.drawing
    pub stays : Stays old new

  -- the lines weren't all printed
  pub record LacksSink : Type 0 where
    pub word : ℕ
    pub words : WordsDrawn (word ∷ []) old.drawing new.drawing
    pub sending : new.sending ≡ old.sending
    pub part : WritesPart old.held new.held (lines_by k packet time word)
    pub fault : HasRisen old.faults new.faults

  -- how it went: on, or to an end with this status
  abbrev pub IsDone : Option ToolStatus → Type 0
  IsDone None = DoesTurn
  IsDone (Some Statuses.EntropyFault) = LacksItsWord
  IsDone (Some Statuses.Memory) = LacksMemory
  IsDone (Some Statuses.WriteFault) = LacksSink
  IsDone (Some other) = ⊥

-- one that began so reached this, in turns
pub record IsUnderway (server : Address) (start : Keeper) (before : Outside) (k : Keeper)
    (now : Outside) : Type 0 where
  pub turns : List Turn
  pub keeper_is : (kept start turns).keeper ≡ k
  pub keeps : Keeps server start before now turns
  pub later : before.faults ≤ now.faults

-- a turn goes on to the next one, or ends the run with this status
abbrev pub IsTurned : Address → Keeper → Outside → Keeper → Outside → Option ToolStatus → Type 0
IsTurned server start before k now None = IsUnderway server start before k now
IsTurned server start before k now (Some status) = EndsKeep server start before now status

-- One is made that wants what the words say: words were drawn, and the clock told the time.
pub record Begins (ask : KeepAsk) (keeper : Keeper) (old new : Drawing) (before now : Option Times)
    : Type 0 where
  pub words : List ℕ
  pub nonce : Nonce
  pub nonce_by : NonceBy ask.more.nonce words nonce
  pub time : ℕ
  pub drawn : WordsDrawn words old new
  pub clock : IsTimeNow before now time
  pub keeper_is : keeper ≡ keeper_of ask nonce time

-- or no memory was found for it
pub record Starves (old new : Drawing) (before now : Option Times) : Type 0 where
  pub words : List ℕ
  pub few : length words ≤ 3
  pub drawn : WordsDrawn words old new
  pub time : ℕ
  pub clock : IsTimeNow before now time

abbrev pub BeginsNot : Unanswered → (old new : Drawing) → (before now : Option Times) → Type 0
BeginsNot Reasons.EntropyFault old new before now = LacksWord old new × (now ≡ before)
BeginsNot Reasons.Memory old new before now = Starves old new before now
BeginsNot other old new before now = ⊥

abbrev pub IsBeginning : KeepAsk → Result Keeper Unanswered → (old new : Drawing) →
    (before now : Option Times) → Type 0
IsBeginning ask (Ok keeper) old new before now = Begins ask keeper old new before now
IsBeginning ask (Err why) old new before now = BeginsNot why old new before now
