-- Turns of a lane's loop.
use Rattle.std.proofs.Common.{◌≡◌, ◌≢◌, ℕ, ◌/◌, ◌≤◌, List, [], ◌∷◌, ◌++◌, Option, refl, sym, subst, inl, inr, arith}
use Rattle.pcp_base.specs.declared.leases.Endpoint.{Endpoint}
use Rattle.pcp_io.specs.declared.lane_links.LaneAsk.{LaneAsk}
use Rattle.pcp_io.specs.declared.lane_links.LaneAsk.TheVariants.{Look}
use Rattle.pcp_io.specs.Asks.{IsNextAsk}
use Rattle.pcp_io.specs.Faults.{HasRisen}
use Rattle.pcp_io.specs.Times.{IsTimeNow}
use Rattle.lane_loops.specs.declared.loops.Turn.{Turn}
use Rattle.lane_loops.specs.declared.loops.Turn.TheVariants as Turns
use Rattle.lane_loops.specs.LaneRuns.{LaneState, LaneQuestion, Looks, LooksUp, LaneStep, Answered, Idle, DoesStep, DoesSteps, RunsLane, IsTurn}

pub LooksUp-of : (q : LaneQuestion) (owner : Option Endpoint) (old new : LaneState) (mid : Option (List LaneAsk)) (ask : LaneAsk) (time m : ℕ)
    → IsNextAsk old.asks mid ask → ask ≡ Look q.protocol q.port q.remote q.remote_port → new.asks ≡ mid
    → IsTimeNow old.times new.times time → m ≡ time / 1000
    → Looks q m old.lane new.lane owner → LooksUp q owner old new
LooksUp-of q owner old new mid ask time m asked is same clock second looks =
    let question : LaneAsk = Look q.protocol q.port q.remote q.remote_port in
    let asked' : IsNextAsk old.asks mid question = subst (λ (a : LaneAsk). IsNextAsk old.asks mid a) is asked in
    record {
      asked = subst (λ (a : Option (List LaneAsk)). IsNextAsk old.asks a question) (sym same) asked';
      time = time;
      clock = clock;
      looks = subst (λ n. Looks q n old.lane new.lane owner) second looks;
    }

pub risen_after : (before mid now : ℕ) → before ≤ mid → HasRisen mid now → HasRisen before now
risen_after before mid now later (inl a) = inl (omega (arith, later, a))
risen_after before mid now later (inr b) = inr b

-- steps that were done
pub record HasStepped (old new : LaneState) : Type 0 where
  pub steps : List LaneStep
  pub does : DoesSteps steps old new

pub HasStepped-none : (a : LaneState) → HasStepped a a
HasStepped-none a = record { steps = []; does = refl }

steps-push : (steps : List LaneStep) (step : LaneStep) (a b c : LaneState) → DoesSteps steps a b → DoesStep step b c → DoesSteps (steps ++ step ∷ []) a c
steps-push [] step a b c is does = (c, subst (λ (s : LaneState). DoesStep step s c) is does, refl)
steps-push (x ∷ xs) step a b c h does = (h.0, h.1, steps-push xs step h.0 b c h.2 does)

HasStepped-push : (step : LaneStep) (a b c : LaneState) → HasStepped a b → DoesStep step b c → HasStepped a c
HasStepped-push step a b c h does = record { steps = h.steps ++ step ∷ []; does = steps-push h.steps step a b c h.does does }

-- a turn after which the loop goes on
pub turn_on : (t : Turn) (a b c : LaneState) → HasStepped a b → IsTurn t b c → t ≢ Turns.Over → HasStepped a c
turn_on Turns.Answered a b c h turn on = HasStepped-push (Answered turn.0 turn.1) a b c h turn.2
turn_on Turns.Quiet a b c h turn on = HasStepped-push Idle a b c h turn
turn_on Turns.Over a b c h turn on = absurd (on refl)

-- a turn after which it ends
pub turn_ends : (t : Turn) (a b c : LaneState) → HasStepped a b → IsTurn t b c → t ≢ Turns.Answered → RunsLane a c
turn_ends Turns.Answered a b c h turn other = absurd (other refl)
turn_ends Turns.Quiet a b c h turn other = record { steps = h.steps; last = b; does = h.does; ends = inr (inl turn) }
turn_ends Turns.Over a b c h (inl stop) other = record { steps = h.steps; last = b; does = h.does; ends = inl stop }
turn_ends Turns.Over a b c h (inr failed) other = record { steps = h.steps; last = b; does = h.does; ends = inr (inr failed) }
