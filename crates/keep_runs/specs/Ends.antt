-- The run of `keep` (our own): what came, what was asked and printed, and how it ended.
use Rattle.std.specs.Prelude.{◌≡◌, ℕ, ◌≤◌, ◌⊎◌, true, List, [], ◌∷◌, length, Option, IfSome, Err}
use Rattle.std.specs.Io.KnownBytes.{append_known}
use Rattle.pcp_base.specs.declared.addresses.Address.{Address}
use Rattle.pcp_base.specs.declared.addresses.Nonce.{Nonce}
use Rattle.pcp_io.specs.Faults.{HasRisen}
use Rattle.pcp_io.specs.Writes.{WritesPart}
use Rattle.client_words.specs.Asks.{IsKeep}
use Rattle.client_words.specs.declared.keeps.KeepAsk.{KeepAsk}
use Rattle.client_runs.specs.Calls.{NeverAsked, NonceBy, opening, status_without}
use Rattle.client_runs.specs.Links.{Links, Passed, Traffic, with_traffic}
use Rattle.client_runs.specs.declared.tries.Unanswered.{Unanswered}
use Rattle.tool_commands.specs.declared.statuses.ToolStatus.{ToolStatus}
use Rattle.tool_commands.specs.declared.statuses.ToolStatus.TheVariants as Statuses
use Rattle.keep_runs.specs.Keeping.{Turn, has_use, keeper_of, kept, lines_by, packet_of, traffic_of}
use Rattle.keep_runs.specs.declared.keepers.Keeper.{Keeper}

-- what a run has: its links, and a sink with the octets that it tells and its count of faults
pub record Outside : Type 0 where
  pub links : Links
  pub held : Option (List ℕ)
  pub faults : ℕ

-- a turn that ends the run: its item and time came, and these words
abbrev pub cut_short : Turn → List ℕ → Traffic
cut_short turn words =
    record { items = turn.item ∷ []; times = turn.time ∷ []; words = words; requests = [] }

module _ (server : Address) (k : Keeper) (old new : Outside) where
  -- Turns were taken. What they ask was sent and what they tell was printed, in order and nothing else.
  pub record Keeps (turns : List Turn) : Type 0 where
    pub passed : Passed server (traffic_of k turns) old.links new.links
    pub told : new.held ≡ append_known old.held (kept k turns).lines

  -- the inbox gave a stop: nothing is left
  pub record EndsByStop : Type 0 where
    pub turns : List Turn
    pub keeps : Keeps turns
    pub stop : IfSome new.links.left (λ items. items ≡ [])

  -- it failed
  pub record EndsByInbox : Type 0 where
    pub turns : List Turn
    pub keeps : Keeps turns
    pub fault : HasRisen old.links.faults new.links.faults

  -- In the last turn, for which these words were drawn, nothing was sent, nor printed.
  pub record EndsSilent (turns : List Turn) (last : Turn) (words : List ℕ) : Type 0 where
    pub passed : Passed server (with_traffic (traffic_of k turns) (cut_short last words))
        old.links new.links
    pub told : new.held ≡ append_known old.held (kept k turns).lines

  -- no word was found for it
  pub record EndsByEntropy : Type 0 where
    pub turns : List Turn
    pub last : Turn
    pub needed : has_use (kept k turns).keeper (packet_of last.item) last.time ≡ true
    pub ends : EndsSilent turns last []
    pub fault : HasRisen old.links.drawing.faults new.links.drawing.faults

  -- no memory
  pub record EndsByMemory : Type 0 where
    pub turns : List Turn
    pub last : Turn
    pub words : List ℕ
    pub few : length words ≤ 1
    pub ends : EndsSilent turns last words

  -- some first octets of its lines were printed, not all, and nothing was sent
  pub record EndsBySink : Type 0 where
    pub turns : List Turn
    pub last : Turn
    pub passed : Passed server
        (with_traffic (traffic_of k turns) (cut_short last (last.word ∷ []))) old.links new.links
    pub told : WritesPart (append_known old.held (kept k turns).lines) new.held
        (lines_by (kept k turns).keeper (packet_of last.item) last.time last.word)
    pub fault : HasRisen old.faults new.faults

  -- how it ended, by its status
  abbrev pub EndsKeep : ToolStatus → Type 0
  EndsKeep Statuses.Done = EndsByStop
  EndsKeep Statuses.LinkFault = EndsByInbox
  EndsKeep Statuses.EntropyFault = EndsByEntropy
  EndsKeep Statuses.Memory = EndsByMemory
  EndsKeep Statuses.WriteFault = EndsBySink
  EndsKeep other = ⊥

-- The words are this: three words were drawn for the nonce, where none is given, and it ran.
pub record HasKept (words : List (List ℕ)) (filed : Option (List ℕ)) (old new : Outside)
    (status : ToolStatus) : Type 0 where
  pub ask : KeepAsk
  pub is : IsKeep words filed ask
  pub drawn : List ℕ
  pub nonce : Nonce
  pub nonce_by : NonceBy ask.more.nonce drawn nonce
  pub time : ℕ
  pub begun : Links
  pub opened : Passed ask.target.server (opening drawn time) old.links begun
  pub ends : EndsKeep ask.target.server (keeper_of ask nonce time)
      (record old { links = begun }) new status

-- it didn't come to that, for want of memory or of a word
pub record NeverKept (words : List (List ℕ)) (filed : Option (List ℕ)) (old new : Outside)
    (status : ToolStatus) : Type 0 where
  pub ask : KeepAsk
  pub is : IsKeep words filed ask
  pub why : Unanswered
  pub never : NeverAsked ask.target old.links new.links (Err why)
  pub status_is : status ≡ status_without why
  pub still : new.held ≡ old.held

-- the words are none of it, or that isn't known for want of memory, and nothing was done
pub record NotKept (words : List (List ℕ)) (filed : Option (List ℕ)) (old new : Outside)
    (status : ToolStatus) : Type 0 where
  pub none :
      ((status ≡ Statuses.WordsRefused) × ((ask : KeepAsk) → ¬ (IsKeep words filed ask)))
      ⊎ (status ≡ Statuses.Memory)
  pub still : new ≡ old

abbrev pub IsKeepCall : List (List ℕ) → Option (List ℕ) → Outside → Outside → ToolStatus →
    Type 0
IsKeepCall words filed old new status =
    HasKept words filed old new status
    ⊎ (NeverKept words filed old new status ⊎ NotKept words filed old new status)
