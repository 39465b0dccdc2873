-- A run that goes on (our own; for private contracts).
use Rattle.std.specs.Prelude.{◌≡◌, ℕ, ◌+◌, ◌≤◌, ◌⊎◌, List, ◌++◌, length, map, Option, Some, None, Result, Ok, Err}
use Rattle.pcp_options.specs.declared.responses.Response.{Response}
use Rattle.client_commands.specs.declared.commands.Target.{Target}
use Rattle.client_runs.specs.declared.tries.Tries.{Tries}
use Rattle.client_runs.specs.declared.tries.Unanswered.{Unanswered}
use Rattle.client_runs.specs.Calls.{HasReason, HasRun, IsEarly}
use Rattle.client_runs.specs.Links.{Links, Passed, no_traffic}
use Rattle.client_runs.specs.Runs.{Asking, GoesOn, Turn, after_turns, begun}
use Rattle.client_runs.specs.Ticks.{HasDrawn}

-- a run of one that had this state at this time
module _ {S : Type 0} (a : Asking S) (target : Target) (state : S) (time : ℕ) (old : Links) where
  -- So many turns went by. What is said of its words holds whichever words come after them.
  pub record IsUnderway (count : ℕ) (reached : S) (tries : Tries) (now : Links) : Type 0 where
    pub words : List ℕ
    pub turns : List Turn
    pub requests : List (List ℕ)
    pub count_is : count ≡ length turns
    pub goes_on : (rest : List ℕ) →
        GoesOn a target.tries (words ++ rest)
        (begun a target.tries (words ++ rest) state time) turns
    pub reaches : (rest : List ℕ) →
        after_turns a target.tries (words ++ rest)
        (begun a target.tries (words ++ rest) state time) turns
        ≡ record { state = reached; requests = requests; drawn = length words }
    pub has : HasDrawn target.tries words (length requests) tries
    pub passed : Passed target.server
        (record {
          items = map (λ turn. turn.item) turns;
          times = map (λ turn. turn.time) turns;
          words = words;
          requests = requests;
        }) old now

  -- a turn goes on to the next one, or ends the run
  abbrev pub IsTurned : (count : ℕ) → S → Tries → Links →
      Result (Option Response) Unanswered → Type 0
  IsTurned count reached tries now (Ok None) = IsUnderway (count + 1) reached tries now
  IsTurned count reached tries now (Ok (Some response)) =
      HasRun a target state time no_traffic old now (Ok response)
  IsTurned count reached tries now (Err why) =
      HasRun a target state time no_traffic old now (Err why)

  -- it didn't begin: no memory or no word was found for the first request
  pub record NeverBegan (now : Links) (how : Result Response Unanswered) : Type 0 where
    pub early : IsEarly how
    pub words : List ℕ
    pub few : length words ≤ 1
    pub passed : Passed target.server (record no_traffic { words = words }) old now
    pub reason : HasReason old now how

  abbrev pub IsOver : Links → Result Response Unanswered → Type 0
  IsOver now how = NeverBegan now how ⊎ HasRun a target state time no_traffic old now how
