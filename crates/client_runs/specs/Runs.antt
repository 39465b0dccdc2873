-- A run of a client's command (our own): what comes, what is asked for, and how it ends, whoever asks. Times are in
-- milliseconds.
use Rattle.std.specs.Prelude.{◌≡◌, ℕ, ◌+◌, ◌<◌, ◌≤◌, ◌⊎◌, ◌==◌, ◌&&◌, nat_lt, min, is_some, Bool, List, [], ◌∷◌, ◌++◌, length, slice_index, fold, Option, Some, None, option_to_list, Result, Ok, Err, if◌then◌else◌, ⊤}
use Rattle.pcp_base.specs.declared.datagrams.Datagram.{Datagram}
use Rattle.pcp_io.specs.declared.inboxes.InboxItem.{InboxItem}
use Rattle.pcp_io.specs.declared.inboxes.InboxItem.TheVariants as Items
use Rattle.pcp_options.specs.declared.responses.Response.{Response}
use Rattle.client_runs.specs.declared.tries.Unanswered.{Unanswered}
use Rattle.client_runs.specs.declared.tries.Unanswered.TheVariants.{LinkFault, Memory, EntropyFault, Silence, Turns, Stopped}

-- Who asks, in a state of its own: the response that a datagram at a time is as an answer, what any other datagram makes of
-- the state, which request is due at a time, and what a tick with a word makes of it.
pub record Asking (S : Type 0) : Type 0 where
  pub answer : S → Datagram → ℕ → Option Response
  pub heard : S → Datagram → ℕ → S
  pub request : S → ℕ → Option (List ℕ)
  pub ticked : S → ℕ → ℕ → S

-- an item that the inbox gave, and the time that the clock told for it
pub record Turn : Type 0 where
  pub item : InboxItem
  pub time : ℕ

-- a state, the requests that came of it, and how many words were drawn for them
pub record Asked (S : Type 0) : Type 0 where
  pub state : S
  pub requests : List (List ℕ)
  pub drawn : ℕ

-- The n-th request has the n-th word: a word is kept until a request came of it. After the last try it is 0.
abbrev pub word_for : (limit : ℕ) → List ℕ → ℕ → ℕ
word_for limit words tries = if nat_lt tries limit then slice_index words tries else 0

-- an answer ends a run, and so does silence
abbrev pub end_by : Option Response → Bool → Option (Result Response Unanswered)
end_by (Some response) silent = Some (Ok response)
end_by None silent = if silent then Some (Err Silence) else None

module _ {S : Type 0} (a : Asking S) where
  -- packets are heard, and any other item says nothing
  abbrev pub after_item : S → InboxItem → ℕ → S
  after_item s (Items.Packet d) time = a.heard s d time
  after_item s (Items.Lose order address) time = s
  after_item s (Items.Status order) time = s
  after_item s Items.Quiet time = s

  abbrev pub answer_in : S → InboxItem → ℕ → Option Response
  answer_in s (Items.Packet d) time = a.answer s d time
  answer_in s (Items.Lose order address) time = None
  answer_in s (Items.Status order) time = None
  answer_in s Items.Quiet time = None

  -- the request that is due in a turn
  abbrev pub request_in : S → Turn → Option (List ℕ)
  request_in s turn = a.request (after_item s turn.item turn.time) turn.time

module _ {S : Type 0} (a : Asking S) (limit : ℕ) (words : List ℕ) where
  abbrev pub after_tick : Asked S → ℕ → Asked S
  after_tick t time = record {
    state = a.ticked t.state time (word_for limit words (length t.requests));
    requests = t.requests ++ option_to_list (a.request t.state time);
    drawn = min limit (length t.requests + 1);
  }

  -- It asks at once.
  abbrev pub begun : S → ℕ → Asked S
  begun state time = after_tick (record { state = state; requests = []; drawn = 0 }) time

  -- a turn: an item, and then a tick
  abbrev pub after_turn : Asked S → Turn → Asked S
  after_turn t turn =
      after_tick (record t { state = after_item a t.state turn.item turn.time }) turn.time

  -- All tries were sent, and the last wait passed: one more request is due.
  abbrev pub is_silent : Asked S → Turn → Bool
  is_silent t turn = (length t.requests == limit) && is_some (request_in a t.state turn)

  -- how a turn ends the run, if it does
  abbrev pub end_of : Asked S → Turn → Option (Result Response Unanswered)
  end_of t turn = end_by (answer_in a t.state turn.item turn.time) (is_silent t turn)

  -- turns one after the other, none of which ends it
  abbrev pub after_turns : Asked S → List Turn → Asked S
  after_turns t turns = fold after_turn t turns

  abbrev pub GoesOn : Asked S → List Turn → Type 0
  GoesOn t [] = ⊤
  GoesOn t (turn ∷ turns) = (end_of t turn ≡ None) × GoesOn (after_turn t turn) turns

-- a run: the words drawn for its requests, the turns that don't end it, and the last one, where it ended in one
pub record Run : Type 0 where
  pub words : List ℕ
  pub turns : List Turn
  pub last : List Turn

abbrev pub all_turns : Run → List Turn
all_turns run = run.turns ++ run.last

-- a run of one that has this state at this time
module _ {S : Type 0} (a : Asking S) (limit : ℕ) (state : S) (time : ℕ) where
  -- what its turns make of it, but for the last one
  abbrev pub reached : Run → Asked S
  reached run = after_turns a limit run.words (begun a limit run.words state time) run.turns

  pub record EndsInTurn (run : Run) (how : Result Response Unanswered) : Type 0 where
    pub turn : Turn
    pub last : run.last ≡ turn ∷ []
    pub ends : end_of a limit run.words (reached run) turn ≡ Some how

  -- How it ends: by its last turn; after so many turns; before a turn, with the inbox; or wherever a word or memory is wanting.
  abbrev pub Ends : Run → Result Response Unanswered → Type 0
  Ends run (Ok response) = EndsInTurn run (Ok response)
  Ends run (Err Silence) = EndsInTurn run (Err Silence)
  Ends run (Err Turns) = (run.last ≡ []) × (length run.turns ≡ 200000)
  Ends run (Err Stopped) = (run.last ≡ []) × (length run.turns < 200000)
  Ends run (Err LinkFault) = (run.last ≡ []) × (length run.turns < 200000)
  Ends run (Err EntropyFault) = length run.last ≤ 1
  Ends run (Err Memory) = length run.last ≤ 1

  pub record IsRun (run : Run) (how : Result Response Unanswered) : Type 0 where
    pub goes_on :
        GoesOn a limit run.words (begun a limit run.words state time) run.turns
    pub ends : Ends run how
    pub few : length (all_turns run) ≤ 200000
    -- One more word may have been drawn where memory was wanting.
    pub drawn : (length run.words ≡ (reached run).drawn)
        ⊎ ((how ≡ Err Memory) × (length run.words ≡ (reached run).drawn + 1))
