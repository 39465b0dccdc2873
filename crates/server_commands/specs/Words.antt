-- The words of a command (our own). Numbers are decimal, without a sign or a leading zero.
use Rattle.std.specs.Prelude.{◌≡◌, ◌≢◌, ℕ, ◌^◌, ◌<◌, ◌≤◌, List, [], ◌∷◌, codes, decimal}
use Rattle.server_commands.specs.declared.commands.Command.{Command}
use Rattle.server_commands.specs.declared.commands.Command.TheVariants.{Play, Dump, Load}
use Rattle.server_commands.specs.declared.commands.LoadPlan.{LoadPlan}
use Rattle.server_commands.specs.declared.commands.TheConstants.{MOST_REQUESTS}

-- the text writes this moment
abbrev pub IsMomentText : List ℕ → ℕ → Type 0
IsMomentText text moment = (text ≡ decimal moment) × (moment < 2 ^ 40)

-- play CONFIG SCRIPT JOURNALS START, none of them empty
pub record IsPlayWords (words : List (List ℕ)) (start : ℕ) : Type 0 where
  pub config : List ℕ
  pub script : List ℕ
  pub journals : List ℕ
  pub spelled : words ≡ codes "play" ∷ config ∷ script ∷ journals ∷ decimal start ∷ []
  pub filled : (config ≢ []) × (script ≢ []) × (journals ≢ [])
  pub start_end : start < 2 ^ 40

-- dump CONFIG JOURNALS, none of them empty
pub record IsDumpWords (words : List (List ℕ)) : Type 0 where
  pub config : List ℕ
  pub journals : List ℕ
  pub spelled : words ≡ codes "dump" ∷ config ∷ journals ∷ []
  pub filled : (config ≢ []) × (journals ≢ [])

-- START NUMBER COUNT
pub record IsPlanText (start number count : List ℕ) (plan : LoadPlan) : Type 0 where
  pub start_is : IsMomentText start plan.start
  pub number_is : (number ≡ decimal plan.number) × (plan.number < 2 ^ 64)
  pub count_is : (count ≡ decimal plan.count) × (plan.count ≤ MOST_REQUESTS)

-- load CONFIG JOURNALS START NUMBER COUNT, none of them empty
pub record IsLoadWords (words : List (List ℕ)) (plan : LoadPlan) : Type 0 where
  pub config : List ℕ
  pub journals : List ℕ
  pub start : List ℕ
  pub number : List ℕ
  pub count : List ℕ
  pub spelled : words ≡ codes "load" ∷ config ∷ journals ∷ start ∷ number ∷ count ∷ []
  pub filled : (config ≢ []) × (journals ≢ [])
  pub numbers : IsPlanText start number count plan

-- the words are this command
abbrev pub IsCommand : List (List ℕ) → Command → Type 0
IsCommand words (Play start) = IsPlayWords words start
IsCommand words Dump = IsDumpWords words
IsCommand words (Load plan) = IsLoadWords words plan
