-- A tick of one that asks, and the word for it (our own; for private contracts).
use Rattle.std.specs.Prelude.{◌≡◌, ℕ, ◌+◌, ◌<◌, ◌≤◌, ◌⊎◌, min, is_some, true, List, [], ◌++◌, length, slice_index, Option, Some, None, option_to_list, Result, Ok, Err}
use Rattle.pcp_base.specs.declared.addresses.Address.{Address}
use Rattle.pcp_io.specs.Faults.{HasRisen}
use Rattle.pcp_io.specs.Sends.{sent_after}
use Rattle.random_words.specs.RandomWords.{IsNextWord, RandomWords}
use Rattle.client_runs.specs.declared.tries.Tries.{Tries}
use Rattle.client_runs.specs.declared.tries.Unanswered.{Unanswered}
use Rattle.client_runs.specs.declared.tries.Unanswered.TheVariants.{LinkFault, Memory, EntropyFault, Silence, Turns, Stopped}
use Rattle.client_runs.specs.Links.{Drawing, RequestsWent, Sending, WordsDrawn}
use Rattle.client_runs.specs.Runs.{Asking, word_for}

-- the word for the next tick: the one that is kept; 0 after the last try; or the next one, which is kept from then on
pub record KeepsWord (old new : Tries) (before now : Option RandomWords) (word : ℕ)
    : Type 0 where
  pub kept : old.word ≡ Some word
  pub same : (new ≡ old) × (now ≡ before)

pub record HasNoWord (old new : Tries) (before now : Option RandomWords) (word : ℕ)
    : Type 0 where
  pub none : old.word ≡ None
  pub spent : old.limit ≤ old.given
  pub zero : word ≡ 0
  pub same : (new ≡ old) × (now ≡ before)

pub record DrawsWord (old new : Tries) (before now : Option RandomWords) (word : ℕ)
    : Type 0 where
  pub none : old.word ≡ None
  pub more : old.given < old.limit
  pub next : IsNextWord before now word
  pub kept : new ≡ record old { word = Some word }

abbrev pub GivesWord : Tries → Tries → (before now : Option RandomWords) → ℕ → Type 0
GivesWord old new before now word =
    KeepsWord old new before now word ⊎ (HasNoWord old new before now word ⊎ DrawsWord old new before now word)

-- a request was handed to the outbox, which took it, or failed and counted that
pub record HandsOver (server : Address) (text : List ℕ) (old new : Sending) : Type 0 where
  pub sent : (new.sent ≡ sent_after old.sent 0 server 5351 text)
      ⊎ ((new.sent ≡ old.sent) × HasRisen old.faults new.faults)
  pub later : old.faults ≤ new.faults

-- these words were drawn for so many requests: one for each, and one that is kept for the next
abbrev pub IsKept : Option ℕ → (limit : ℕ) → List ℕ → ℕ → Type 0
IsKept None limit words n = length words ≡ n
IsKept (Some word) limit words n =
    (length words ≡ n + 1) × (n < limit) × (slice_index words n ≡ word)

pub record HasDrawn (limit : ℕ) (words : List ℕ) (n : ℕ) (tries : Tries) : Type 0 where
  pub limit_is : tries.limit ≡ limit
  pub given_is : tries.given ≡ n
  pub most : n ≤ limit
  pub kept : IsKept tries.word limit words n

-- a tick of one in this state, for which these words were drawn, and that gave these requests
module _ {S : Type 0} (a : Asking S) (limit : ℕ) (server : Address) (time : ℕ) (words : List ℕ)
    (requests : List (List ℕ)) (old : S) where
  pub record Ticked (new : S) (tries : Tries) (drawing drawn : Drawing) (sending sent : Sending)
      : Type 0 where
    pub more : List ℕ
    pub has : HasDrawn limit (words ++ more)
        (length (requests ++ option_to_list (a.request old time))) tries
    pub count : length (words ++ more) ≡ min limit (length requests + 1)
    pub state : (rest : List ℕ) →
        new ≡ a.ticked old time (word_for limit ((words ++ more) ++ rest) (length requests))
    pub came : WordsDrawn more drawing drawn
    pub went : RequestsWent server (option_to_list (a.request old time)) sending sent

  -- no request was sent, and words were drawn, one at most
  pub record TickFails (drawing drawn : Drawing) (sending sent : Sending) : Type 0 where
    pub more : List ℕ
    pub few : length more ≤ 1
    pub came : WordsDrawn more drawing drawn
    pub went : RequestsWent server [] sending sent

  -- one more request is due after the last try
  pub record TickIsSilent (drawing drawn : Drawing) (sending sent : Sending) : Type 0 where
    pub all : length requests ≡ limit
    pub due : is_some (a.request old time) ≡ true
    pub came : WordsDrawn [] drawing drawn
    pub went : RequestsWent server [] sending sent

  -- no word was found
  pub record TickHasNoWord (drawing drawn : Drawing) (sending sent : Sending) : Type 0 where
    pub fault : HasRisen drawing.faults drawn.faults
    pub came : WordsDrawn [] drawing drawn
    pub went : RequestsWent server [] sending sent

  abbrev pub IsTicked : (new : S) → Tries → (drawing drawn : Drawing) → (sending sent : Sending) →
      Result (Unit {0}) Unanswered → Type 0
  IsTicked new tries drawing drawn sending sent (Ok done) = Ticked new tries drawing drawn sending sent
  IsTicked new tries drawing drawn sending sent (Err Silence) = TickIsSilent drawing drawn sending sent
  IsTicked new tries drawing drawn sending sent (Err EntropyFault) = TickHasNoWord drawing drawn sending sent
  IsTicked new tries drawing drawn sending sent (Err Memory) = TickFails drawing drawn sending sent
  IsTicked new tries drawing drawn sending sent (Err LinkFault) = ⊥
  IsTicked new tries drawing drawn sending sent (Err Turns) = ⊥
  IsTicked new tries drawing drawn sending sent (Err Stopped) = ⊥
