-- What is drawn before a run begins (our own; for private contracts).
use Rattle.std.specs.Prelude.{ℕ, ◌≤◌, ◌⊎◌, List, length, Option, Result}
use Rattle.pcp_base.specs.declared.addresses.Nonce.{Nonce}
use Rattle.pcp_io.specs.Faults.{HasRisen}
use Rattle.pcp_options.specs.declared.responses.Response.{Response}
use Rattle.client_words.specs.declared.asks.ClientAsk.{ClientAsk}
use Rattle.client_runs.specs.declared.tries.Unanswered.{Unanswered}
use Rattle.client_runs.specs.Asking.{target_of}
use Rattle.client_runs.specs.Calls.{HasWanted, NeverAsked, NonceBy}
use Rattle.client_runs.specs.Links.{Drawing, Links, WordsDrawn}

-- these words were drawn for the nonce
pub record HasNonce (given : Option Nonce) (old new : Drawing) (nonce : Nonce) : Type 0 where
  pub words : List ℕ
  pub is : NonceBy given words nonce
  pub few : length words ≤ 3
  pub drawn : WordsDrawn words old new

-- two at most were, and then no word was found
pub record LacksWord (old new : Drawing) : Type 0 where
  pub words : List ℕ
  pub few : length words ≤ 2
  pub drawn : WordsDrawn words old new
  pub fault : HasRisen old.faults new.faults

-- a want was asked for, or it didn't come to that
abbrev pub Wants : ClientAsk → Links → Links → Result Response Unanswered → Type 0
Wants ask old new how =
    NeverAsked (target_of ask.command) old new how ⊎ HasWanted ask old new how
