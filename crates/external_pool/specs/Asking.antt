-- What is answered to an ask for ports (our own).
use Rattle.std.specs.Prelude.{◌≡◌, ℕ, ◌<◌, ◌≤◌, ◌-◌, min, ◌&&◌, ◌||◌, ◌==◌, not, Bool, false, Option, Some, None, Result, Ok, Err, if◌then◌else◌}
use Rattle.pcp_base.specs.declared.addresses.Address.{Address}
use Rattle.pcp_base.specs.declared.leases.Protocol.{Protocol}
use Rattle.external_pool.specs.Choosing.{IsPick}
use Rattle.external_pool.specs.Holdings.{Holdings, uses_of, ports_held}
use Rattle.external_pool.specs.declared.asks.PickAsk.{PickAsk}
use Rattle.external_pool.specs.declared.asks.Picked.{Picked}
use Rattle.external_pool.specs.declared.asks.PickRefused.{PickRefused}
use Rattle.external_pool.specs.declared.asks.PickRefused.TheVariants.{Quota, CannotProvide, NoPort}

-- whether it is all that was asked for and what was suggested
abbrev pub is_as_asked : PickAsk → Option Picked → Bool
is_as_asked ask None = false
is_as_asked ask (Some run) =
    run.count == ask.asked && (ask.suggested == 0 || ask.suggested == run.start) && ask.here

abbrev pub or_no_port : Option Picked → Result Picked PickRefused
or_no_port None = Err NoPort
or_no_port (Some run) = Ok run

-- what is answered where these ports would be picked
abbrev pub answer_to : PickAsk → Option Picked → Result Picked PickRefused
answer_to ask choice =
    if ask.must && not (is_as_asked ask choice) then Err CannotProvide else or_no_port choice

-- the pick with a room, judged
pub record IsJudgedPick (pool : Holdings) (who : Address) (protocol : Protocol) (ask : PickAsk)
    (room : ℕ) (answer : Result Picked PickRefused) : Type 0 where
  pub choice : Option Picked
  pub is_pick :
      IsPick (uses_of pool protocol) who ask.internal ask.suggested ask.parity room choice
  pub is_answer : answer ≡ answer_to ask choice

-- An address that holds its quota gets none; any other gets the pick with the room that the quota
-- leaves.
pub record IsPickAnswer (pool : Holdings) (who : Address) (protocol : Protocol) (ask : PickAsk)
    (answer : Result Picked PickRefused) : Type 0 where
  pub quota : pool.quota ≤ ports_held pool who → answer ≡ Err (Quota (ports_held pool who))
  pub pick : ports_held pool who < pool.quota →
      IsJudgedPick pool who protocol ask (min ask.room (pool.quota - ports_held pool who)) answer
