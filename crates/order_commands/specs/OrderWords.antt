-- The words of orders (our own).
use Rattle.std.specs.Prelude.{◌≡◌, ◌≢◌, ℕ, List, [], ◌∷◌, codes}
use Rattle.pcp_base.specs.AddressTexts.{IsAddressText}
use Rattle.pcp_base.specs.declared.addresses.Address.{Address}
use Rattle.order_commands.specs.declared.commands.OrderPlan.{OrderPlan}
use Rattle.order_commands.specs.declared.commands.OrderPlan.TheVariants.{Stop, Lose, Status}

-- COMMAND JOURNALS, the second not empty
pub record IsPlainWords (command : List ℕ) (words : List (List ℕ)) : Type 0 where
  pub journals : List ℕ
  pub spelled : words ≡ command ∷ journals ∷ []
  pub filled : journals ≢ []

-- lose JOURNALS ADDRESS, the second not empty
pub record IsLoseWords (words : List (List ℕ)) (address : Address) : Type 0 where
  pub journals : List ℕ
  pub text : List ℕ
  pub spelled : words ≡ codes "lose" ∷ journals ∷ text ∷ []
  pub filled : journals ≢ []
  pub address_is : IsAddressText text address

-- the words are this order
abbrev pub IsOrderWords : List (List ℕ) → OrderPlan → Type 0
IsOrderWords words Stop = IsPlainWords (codes "stop") words
IsOrderWords words (Lose address) = IsLoseWords words address
IsOrderWords words Status = IsPlainWords (codes "status") words
