-- The form of a link to a server in memory (our own).
use Rattle.std.specs.Prelude.{ℕ, List, [], Some, Result}
use Rattle.order_runs.specs.declared.links.OrderAsk.{OrderAsk}
use Rattle.order_runs.specs.declared.links.OrderFault.{OrderFault}
use Rattle.order_runs.specs.Orders.{OrderState}

pub record OrdersInMemory : Type 0 where
  -- an answer or a fault for each ask from here on
  pub left : List (Result (List ℕ) OrderFault)
  -- what it was asked
  pub asked : List OrderAsk
  -- how many asks found a fault
  pub faults : ℕ

-- a link that will answer so
abbrev pub new_orders : List (Result (List ℕ) OrderFault) → OrdersInMemory
new_orders answers = record { left = answers; asked = []; faults = 0 }

-- what it tells as a link
abbrev pub state_of : OrdersInMemory → OrderState
state_of s = record { left = Some s.left; asked = Some s.asked; faults = s.faults }
