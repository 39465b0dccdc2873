-- How a server that runs is asked (our own).
use Rattle.std.specs.Prelude.{◌≡◌, ℕ, ◌≤◌, ◌⊎◌, List, [], ◌∷◌, ◌++◌, Option, Some, None, option_map, Result, Err}
use Rattle.pcp_io.specs.Faults.{HasCause}
use Rattle.order_runs.specs.declared.links.OrderAsk.{OrderAsk}
use Rattle.order_runs.specs.declared.links.OrderFault.{OrderFault}
use Rattle.order_runs.specs.declared.links.OrderFault.TheVariants.{Silent, Memory}

-- what a link tells of itself
pub record OrderState : Type 0 where
  -- an answer or a fault for each ask from here on
  pub left : Option (List (Result (List ℕ) OrderFault))
  -- what it was asked
  pub asked : Option (List OrderAsk)
  -- how many faults it has counted
  pub faults : ℕ

-- It is the next of what was left, where that is told. Where nothing was left, it is silence.
abbrev pub IsNextAnswer : (before now : Option (List (Result (List ℕ) OrderFault))) →
    Result (List ℕ) OrderFault → Type 0
IsNextAnswer None now given = now ≡ None
IsNextAnswer (Some []) now given = (given ≡ Err Silent) × (now ≡ Some [])
IsNextAnswer (Some (answer ∷ rest)) now given = (given ≡ answer) × (now ≡ Some rest)

-- this was asked behind the others
abbrev pub asked_with : Option (List OrderAsk) → OrderAsk → Option (List OrderAsk)
asked_with before ask = option_map (λ asks. asks ++ ask ∷ []) before

-- the server was asked
pub record HasAsked (ask : OrderAsk) (old new : OrderState) (given : Result (List ℕ) OrderFault)
    : Type 0 where
  pub next : IsNextAnswer old.left new.left given
  pub asked : new.asked ≡ asked_with old.asked ask
  pub cause : HasCause old.faults new.faults given

-- No memory was found, and what is left stays. Whether the server was asked isn't said.
pub record LacksMemory (ask : OrderAsk) (old new : OrderState)
    (given : Result (List ℕ) OrderFault) : Type 0 where
  pub none : given ≡ Err Memory
  pub left : new.left ≡ old.left
  pub asked : (new.asked ≡ old.asked) ⊎ (new.asked ≡ asked_with old.asked ask)
  pub later : old.faults ≤ new.faults

abbrev pub Asks : OrderAsk → OrderState → OrderState → Result (List ℕ) OrderFault → Type 0
Asks ask old new given = HasAsked ask old new given ⊎ LacksMemory ask old new given
