-- Calls of the client's commands (our own): what ran for the words, what is printed, and the status.
use Rattle.std.specs.Prelude.{◌≡◌, ℕ, ◌≤◌, ◌⊎◌, List, [], ◌∷◌, length, map, Option, Some, None, IfSome, Result, Ok, Err, ⊤}
use Rattle.std.specs.Io.KnownBytes.{append_known}
use Rattle.pcp_base.specs.declared.addresses.Nonce.{Nonce}
use Rattle.pcp_io.specs.Faults.{HasRisen}
use Rattle.pcp_io.specs.Writes.{WritesPart}
use Rattle.pcp_options.specs.declared.responses.Response.{Response}
use Rattle.client_commands.specs.declared.commands.ClientCommand.{ClientCommand}
use Rattle.client_commands.specs.declared.commands.ClientCommand.TheVariants.{Map, Peer, Announce}
use Rattle.client_commands.specs.declared.commands.Target.{Target}
use Rattle.client_words.specs.Asks.{IsAsk}
use Rattle.client_words.specs.declared.asks.ClientAsk.{ClientAsk}
use Rattle.tool_commands.specs.declared.statuses.ToolStatus.{ToolStatus}
use Rattle.tool_commands.specs.declared.statuses.ToolStatus.TheVariants as Statuses
use Rattle.client_runs.specs.declared.tries.Unanswered.{Unanswered}
use Rattle.client_runs.specs.declared.tries.Unanswered.TheVariants.{LinkFault, Memory, EntropyFault, Silence, Turns, Stopped}
use Rattle.client_runs.specs.Askers.{announcing, new_epoch_asker, started, wanting}
use Rattle.client_runs.specs.Asking.{nonce_of, target_of}
use Rattle.client_runs.specs.Lines.{answer_line, status_of}
use Rattle.client_runs.specs.Links.{Links, Passed, Traffic, with_traffic}
use Rattle.client_runs.specs.Runs.{Asking, IsRun, Run, all_turns, reached}

-- What else holds where no answer came: the inbox has nothing left after its stop, and a fault was counted.
abbrev pub HasReason : Links → Links → Result Response Unanswered → Type 0
HasReason old new (Ok response) = ⊤
HasReason old new (Err Silence) = ⊤
HasReason old new (Err Turns) = ⊤
HasReason old new (Err Stopped) = IfSome new.left (λ rest. rest ≡ [])
HasReason old new (Err LinkFault) = HasRisen old.faults new.faults
HasReason old new (Err EntropyFault) = HasRisen old.drawing.faults new.drawing.faults
HasReason old new (Err Memory) = ⊤

module _ {S : Type 0} (a : Asking S) (target : Target) (state : S) (time : ℕ) where
  -- what a run gets and sends
  abbrev pub traffic_of : Run → Traffic
  traffic_of run = record {
    items = map (λ turn. turn.item) (all_turns run);
    times = map (λ turn. turn.time) (all_turns run);
    words = run.words;
    requests = (reached a target.tries state time run).requests;
  }

  -- A run of one that has this state at this time, after this traffic: every item was taken and each packet among them heard,
  -- in order, and its requests are all that was sent.
  pub record HasRun (first : Traffic) (old new : Links) (how : Result Response Unanswered)
      : Type 0 where
    pub run : Run
    pub is_run : IsRun a target.tries state time run how
    pub passed : Passed target.server (with_traffic first (traffic_of run)) old new
    pub reason : HasReason old new how

-- It ended before it asked: no memory or no word was found.
abbrev pub IsEarly : Result Response Unanswered → Type 0
IsEarly how = (how ≡ Err Memory) ⊎ (how ≡ Err EntropyFault)

pub record NeverAsked (target : Target) (old new : Links) (how : Result Response Unanswered)
    : Type 0 where
  pub early : IsEarly how
  pub words : List ℕ
  pub times : List ℕ
  pub few : (length words ≤ 4) × (length times ≤ 1)
  pub passed : Passed target.server
      (record { items = []; times = times; words = words; requests = [] }) old new
  pub reason : HasReason old new how

-- the words of the nonce, and the time at which it begins
abbrev pub opening : List ℕ → ℕ → Traffic
opening words time = record { items = []; times = time ∷ []; words = words; requests = [] }

-- the nonce that is given, or three words as one
pub record DrawnNonce (words : List ℕ) (nonce : Nonce) : Type 0 where
  pub a : ℕ
  pub b : ℕ
  pub c : ℕ
  pub words_are : words ≡ a ∷ b ∷ c ∷ []
  pub nonce_is : nonce ≡ nonce_of a b c

abbrev pub NonceBy : Option Nonce → List ℕ → Nonce → Type 0
NonceBy (Some given) words nonce = (words ≡ []) × (nonce ≡ given)
NonceBy None words nonce = DrawnNonce words nonce

-- A client with its want draws the words of the nonce, where none is given.
pub record HasWanted (ask : ClientAsk) (old new : Links) (how : Result Response Unanswered)
    : Type 0 where
  pub words : List ℕ
  pub nonce : Nonce
  pub drawn : NonceBy ask.more.nonce words nonce
  pub time : ℕ
  pub ran : HasRun wanting (target_of ask.command) (started ask nonce time) time
      (opening words time) old new how

pub record HasAnnounced (target : Target) (old new : Links) (how : Result Response Unanswered)
    : Type 0 where
  pub time : ℕ
  pub ran : HasRun announcing target (new_epoch_asker target) time (opening [] time) old new how

abbrev pub AsksEpoch : Target → Links → Links → Result Response Unanswered → Type 0
AsksEpoch target old new how = NeverAsked target old new how ⊎ HasAnnounced target old new how

abbrev pub HasAsked : ClientCommand → ClientAsk → Links → Links →
    Result Response Unanswered → Type 0
HasAsked (Map t w) ask old new how = HasWanted ask old new how
HasAsked (Peer t w) ask old new how = HasWanted ask old new how
HasAsked (Announce t) ask old new how = HasAnnounced t old new how

-- what ran for an ask, and how it ended
abbrev pub Runs : ClientAsk → Links → Links → Result Response Unanswered → Type 0
Runs ask old new how =
    NeverAsked (target_of ask.command) old new how ⊎ HasAsked ask.command ask old new how

-- the status where no answer came
abbrev pub status_without : Unanswered → ToolStatus
status_without LinkFault = Statuses.LinkFault
status_without Memory = Statuses.Memory
status_without EntropyFault = Statuses.EntropyFault
status_without Silence = Statuses.Silence
status_without Turns = Statuses.Turns
status_without Stopped = Statuses.Stopped

-- The line of the answer is written, or a part of it where the sink fails; without an answer nothing is.
abbrev pub IsTold : ClientAsk → Result Response Unanswered → (before now : Option (List ℕ)) →
    ToolStatus → Type 0
IsTold ask (Ok response) before now status =
    ((status ≡ status_of ask response) × (now ≡ append_known before (answer_line ask response)))
    ⊎ (((status ≡ Statuses.WriteFault) × WritesPart before now (answer_line ask response))
    ⊎ ((status ≡ Statuses.Memory) × (now ≡ before)))
IsTold ask (Err why) before now status = (status ≡ status_without why) × (now ≡ before)

-- the words are this ask, with this text in the file that they name, and it ran
pub record HasAsk (words : List (List ℕ)) (filed : Option (List ℕ)) (old new : Links)
    (before now : Option (List ℕ)) (status : ToolStatus) : Type 0 where
  pub ask : ClientAsk
  pub is : IsAsk words filed ask
  pub how : Result Response Unanswered
  pub runs : Runs ask old new how
  pub told : IsTold ask how before now status

-- the words are none, or that isn't known for want of memory, and nothing was done
pub record HasNoAsk (words : List (List ℕ)) (filed : Option (List ℕ)) (old new : Links)
    (before now : Option (List ℕ)) (status : ToolStatus) : Type 0 where
  pub none :
      ((status ≡ Statuses.WordsRefused) × ((ask : ClientAsk) → ¬ (IsAsk words filed ask)))
      ⊎ (status ≡ Statuses.Memory)
  pub still : (new ≡ old) × (now ≡ before)

abbrev pub IsCall : List (List ℕ) → Option (List ℕ) → Links → Links →
    (before now : Option (List ℕ)) → ToolStatus → Type 0
IsCall words filed old new before now status =
    HasAsk words filed old new before now status ⊎ HasNoAsk words filed old new before now status
