-- The call of an order (our own): what is asked, what its answer says, and how it ends.
use Rattle.std.specs.Prelude.{◌≡◌, ℕ, ◌⊎◌, Bool, true, false, List, [], ◌∷◌, ◌++◌, bytes_eq, codes, Option, Some, None, Result, Ok, Err, if◌then◌else◌}
use Rattle.std.specs.Io.KnownBytes.{append_known}
use Rattle.pcp_io.specs.Writes.{WritesPart}
use Rattle.order_commands.specs.OrderLines.{order_line}
use Rattle.order_commands.specs.OrderWords.{IsOrderWords}
use Rattle.order_commands.specs.declared.commands.OrderPlan.{OrderPlan}
use Rattle.order_commands.specs.declared.commands.OrderPlan.TheVariants.{Stop, Lose, Status}
use Rattle.tool_commands.specs.declared.statuses.ToolStatus.{ToolStatus}
use Rattle.tool_commands.specs.declared.statuses.ToolStatus.TheVariants as Statuses
use Rattle.order_runs.specs.Orders.{Asks, OrderState}
use Rattle.order_runs.specs.declared.links.OrderAsk.{OrderAsk}
use Rattle.order_runs.specs.declared.links.OrderFault.{OrderFault}
use Rattle.order_runs.specs.declared.links.OrderFault.TheVariants.{Silent, Broken, Memory}

-- The end of a server is waited for without a limit.
abbrev pub waits : OrderPlan → Bool
waits Stop = true
waits (Lose address) = false
waits Status = false

abbrev pub ask_of : OrderPlan → OrderAsk
ask_of plan = record { line = order_line plan; without_limit = waits plan }

-- An order that isn't refused: a stop is answered by nothing, a loss by `done`, and how it is by a text,
-- which is to be printed, for which there is no status here.
abbrev pub unrefused_by : OrderPlan → List ℕ → Option ToolStatus
unrefused_by Stop text = Some (if bytes_eq text [] then Statuses.Done else Statuses.LinkFault)
unrefused_by (Lose address) text =
    Some (if bytes_eq text (codes "done" ++ 10 ∷ []) then Statuses.Done else Statuses.LinkFault)
unrefused_by Status text = if bytes_eq text [] then Some Statuses.LinkFault else None

-- the status that an answer says, where it isn't to be printed
abbrev pub said_by : OrderPlan → List ℕ → Option ToolStatus
said_by plan text =
    if bytes_eq text (codes "refused" ++ 10 ∷ []) then Some Statuses.OrderRefused
    else unrefused_by plan text

-- it is printed, or a part of it where the sink fails
abbrev pub IsPrinted : List ℕ → (before now : Option (List ℕ)) → ToolStatus → Type 0
IsPrinted text before now status =
    ((status ≡ Statuses.Done) × (now ≡ append_known before text))
    ⊎ ((status ≡ Statuses.WriteFault) × WritesPart before now text)

abbrev pub EndsAnswered : Option ToolStatus → List ℕ → (before now : Option (List ℕ)) → ToolStatus →
    Type 0
EndsAnswered (Some said) text before now status = (status ≡ said) × (now ≡ before)
EndsAnswered None text before now status = IsPrinted text before now status

-- the status where there is no answer
abbrev pub status_without : OrderFault → ToolStatus
status_without Silent = Statuses.Silence
status_without Broken = Statuses.LinkFault
status_without Memory = Statuses.Memory

-- how an order ends, by what was answered
abbrev pub EndsOrder : OrderPlan → Result (List ℕ) OrderFault → (before now : Option (List ℕ)) →
    ToolStatus → Type 0
EndsOrder plan (Ok text) before now status =
    EndsAnswered (said_by plan text) text before now status
EndsOrder plan (Err why) before now status = (status ≡ status_without why) × (now ≡ before)

-- the words are this order, and the link was asked for it, once
pub record HasOrdered (words : List (List ℕ)) (old new : OrderState)
    (before now : Option (List ℕ)) (status : ToolStatus) : Type 0 where
  pub plan : OrderPlan
  pub is : IsOrderWords words plan
  pub given : Result (List ℕ) OrderFault
  pub asks : Asks (ask_of plan) old new given
  pub ends : EndsOrder plan given before now status

-- the words are no order, and nothing was done
pub record RefusesWords (words : List (List ℕ)) (old new : OrderState)
    (before now : Option (List ℕ)) (status : ToolStatus) : Type 0 where
  pub refused : status ≡ Statuses.WordsRefused
  pub none : (plan : OrderPlan) → ¬ (IsOrderWords words plan)
  pub still : (new ≡ old) × (now ≡ before)

abbrev pub IsOrderRun : List (List ℕ) → OrderState → OrderState → (before now : Option (List ℕ)) →
    ToolStatus → Type 0
IsOrderRun words old new before now status =
    HasOrdered words old new before now status ⊎ RefusesWords words old new before now status
