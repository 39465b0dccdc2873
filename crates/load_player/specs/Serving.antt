-- A load in the middle of its requests (our own; for private contracts).
use Rattle.std.specs.Prelude.{◌≡◌, ℕ, ◌+◌, Result, Ok, Err}
use Rattle.sha2.specs.Hashers.{Holds256}
use Rattle.pcp_script.specs.Loads.{load_at}
use Rattle.server_commands.specs.declared.commands.LoadPlan.{LoadPlan}
use Rattle.script_player.specs.declared.answerers.AnswerFault.{AnswerFault}
use Rattle.load_summary.specs.Counts.{AreCountsOf}
use Rattle.load_player.specs.declared.player.Progress.{Progress}
use Rattle.load_player.specs.LoadEnds.{LoadCourse, StopsServing}
use Rattle.load_player.specs.LoadRuns.{after_requests, houses_past, kinds_of, planned_to, replies_of}

-- the first n requests were served
pub record IsServing {House : Type 0} (course : LoadCourse House) (plan : LoadPlan) (n : ℕ)
    (progress : Progress) : Type 0 where
  pub next : progress.load ≡ load_at plan.number n
  pub counts : AreCountsOf progress.counts
      (kinds_of course.effects course.begun (planned_to plan n))
  pub digest : Holds256 progress.digest
      (replies_of course.effects course.begun (planned_to plan n))
  pub house : course.ended ≡ after_requests course.effects course.begun (planned_to plan n)
  pub over : course.over (houses_past course.effects course.begun (planned_to plan n))

-- one more is served, or the load ends
abbrev pub IsServedNext : {House : Type 0} → LoadCourse House → LoadPlan → (n : ℕ) → Progress →
    Result Unit AnswerFault → Type 0
IsServedNext course plan n progress (Ok done) = IsServing course plan (n + 1) progress
IsServedNext course plan n progress (Err fault) = StopsServing course plan
