-- The line that says an order to a server (our own): its words, and a line feed.
use Rattle.std.specs.Prelude.{ℕ, List, [], ◌∷◌, ◌++◌, codes}
use Rattle.pcp_base.specs.AddressTexts.{address_text}
use Rattle.order_commands.specs.declared.commands.OrderPlan.{OrderPlan}
use Rattle.order_commands.specs.declared.commands.OrderPlan.TheVariants.{Stop, Lose, Status}

abbrev pub order_text : OrderPlan → List ℕ
order_text Stop = codes "stop"
order_text (Lose address) = codes "lose " ++ address_text address
order_text Status = codes "status"

abbrev pub order_line : OrderPlan → List ℕ
order_line plan = order_text plan ++ 10 ∷ []
