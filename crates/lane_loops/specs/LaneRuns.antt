-- What the loop of a lane does (our own): looks that are asked and answered one after the other.
use Rattle.std.specs.Prelude.{◌≡◌, ℕ, ◌/◌, ◌⊎◌, List, [], ◌∷◌, Option}
use mathlib.Core.List.{IsPrefix}
use Rattle.pcp_base.specs.Apply.{apply_all}
use Rattle.pcp_base.specs.declared.addresses.Address.{Address}
use Rattle.pcp_base.specs.declared.leases.Endpoint.{Endpoint}
use Rattle.pcp_base.specs.declared.leases.Protocol.{Protocol}
use Rattle.filter_rules.specs.Lookups.{look}
use Rattle.pcp_io.specs.declared.lane_links.LaneAsk.{LaneAsk}
use Rattle.pcp_io.specs.declared.lane_links.LaneAsk.TheVariants.{Look, Quiet, Stop}
use Rattle.pcp_io.specs.Asks.{answers_with, IsNextAsk}
use Rattle.pcp_io.specs.Faults.{HasRisen}
use Rattle.pcp_io.specs.Times.{Times, IsTimeNow}
use Rattle.lane_loops.specs.declared.loops.Turn.{Turn}
use Rattle.lane_loops.specs.declared.loops.Turn.TheVariants as Turns
use Rattle.lane_index.specs.Lanes.{LaneKnowledge}

-- a lane, and of its link and its clock what they tell
pub record LaneState : Type 0 where
  pub lane : LaneKnowledge
  pub asks : Option (List LaneAsk)
  pub answers : Option (List (Option Endpoint))
  pub faults : ℕ
  pub times : Option Times

-- whose is what this remote peer sends to this external port
pub record LaneQuestion : Type 0 where
  pub protocol : Protocol
  pub port : ℕ
  pub remote : Address
  pub remote_port : ℕ

-- A look answers by published records that begin with those that the lane knew. The lane then knows
-- these.
pub record Looks (q : LaneQuestion) (m : ℕ) (old new : LaneKnowledge) (owner : Option Endpoint)
    : Type 0 where
  pub index : (new.index ≡ old.index) × (new.opening ≡ old.opening)
  pub known : IsPrefix old.known new.known
  pub owner_is : owner
      ≡ look (apply_all new.opening new.known) q.protocol q.port q.remote q.remote_port m

-- The link asked this, the clock was read once, and the lane looked at that second.
pub record LooksUp (q : LaneQuestion) (owner : Option Endpoint) (old new : LaneState) : Type 0 where
  pub asked : IsNextAsk old.asks new.asks (Look q.protocol q.port q.remote q.remote_port)
  pub time : ℕ
  pub clock : IsTimeNow old.times new.times time
  pub looks : Looks q (time / 1000) old.lane new.lane owner

pub data LaneStep : Type 0 where
  -- a question and its answer
  Answered : LaneQuestion → Option Endpoint → LaneStep
  -- nothing was asked
  Idle : LaneStep

-- it was answered
pub record AnswersLook (q : LaneQuestion) (owner : Option Endpoint) (old new : LaneState)
    : Type 0 where
  pub looked : LooksUp q owner old new
  pub taken : new.answers ≡ answers_with old.answers owner

-- an ask that isn't answered
pub record Hears (ask : LaneAsk) (old new : LaneState) : Type 0 where
  pub asked : IsNextAsk old.asks new.asks ask
  pub same : (new.lane ≡ old.lane) × (new.answers ≡ old.answers) × (new.times ≡ old.times)

abbrev pub DoesStep : LaneStep → LaneState → LaneState → Type 0
DoesStep (Answered q owner) old new = AnswersLook q owner old new
DoesStep Idle old new = Hears Quiet old new

abbrev pub DoesSteps : List LaneStep → LaneState → LaneState → Type 0
DoesSteps [] old new = new ≡ old
DoesSteps (step ∷ steps) old new =
    (mid : LaneState) × DoesStep step old mid × DoesSteps steps mid new

-- the link failed: it asked nothing, or an answer wasn't taken
pub record FailsToAsk (old new : LaneState) : Type 0 where
  pub fault : HasRisen old.faults new.faults
  pub asks : new.asks ≡ old.asks
  pub same : (new.lane ≡ old.lane) × (new.answers ≡ old.answers) × (new.times ≡ old.times)

pub record FailsToAnswer (old new : LaneState) : Type 0 where
  pub question : LaneQuestion
  pub owner : Option Endpoint
  pub looked : LooksUp question owner old new
  pub fault : HasRisen old.faults new.faults
  pub answers : new.answers ≡ old.answers

-- the last call on the link found a stop, a quiet, or a fault
abbrev pub EndsLane : LaneState → LaneState → Type 0
EndsLane old new = Hears Stop old new ⊎ (Hears Quiet old new
    ⊎ (FailsToAsk old new ⊎ FailsToAnswer old new))

-- steps one after the other, and how it ended
pub record RunsLane (old new : LaneState) : Type 0 where
  pub steps : List LaneStep
  pub last : LaneState
  pub does : DoesSteps steps old last
  pub ends : EndsLane last new

-- how a turn of the loop went
abbrev pub IsTurn : Turn → LaneState → LaneState → Type 0
IsTurn Turns.Answered old new = (q : LaneQuestion) × (owner : Option Endpoint) × AnswersLook q owner old new
IsTurn Turns.Quiet old new = Hears Quiet old new
IsTurn Turns.Over old new = Hears Stop old new ⊎ (FailsToAsk old new ⊎ FailsToAnswer old new)
