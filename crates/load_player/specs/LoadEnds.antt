-- How a load ends, and what a crash may leave of it (our own).
use Rattle.std.specs.Prelude.{◌≡◌, ℕ, ◌+◌, ◌<◌, ◌⊎◌, List, [], ◌∷◌}
use Rattle.server_commands.specs.declared.commands.LoadPlan.{LoadPlan}
use Rattle.load_player.specs.LoadRuns.{LoadEffects, after_requests, all_planned, houses_past, planned, planned_to}
use Rattle.load_player.specs.declared.player.LoadStatus.{LoadStatus}
use Rattle.load_player.specs.declared.player.LoadStatus.TheVariants.{Done, WriteFault, DiskFault, Memory}

-- What became of a house from one moment to another, by requests that do this.
pub record LoadCourse (House : Type 0) : Type 1 where
  pub effects : LoadEffects House
  pub begun : House
  pub ended : House
  -- at each moment each image stands for one of these
  pub over : List House → Type 0
  -- at the last moment each image stands for one of these
  pub at_end : List House → Type 0

abbrev pub load_course : {A House : Type 0} → LoadEffects House → (A → House) →
    (A → A → List House → Type 0) → A → A → LoadCourse House
load_course effects house way old new = record {
  effects = effects;
  begun = house old;
  ended = house new;
  over = way old new;
  at_end = way new new;
}

-- Every request was served: the house is that after all of them, and each image stands for it. Before,
-- each stood for the house after some first ones of them.
pub record ServesAll {House : Type 0} (course : LoadCourse House) (plan : LoadPlan) : Type 0 where
  pub house : course.ended ≡ after_requests course.effects course.begun (all_planned plan)
  pub over : course.over (houses_past course.effects course.begun (all_planned plan))
  pub at_end : course.at_end
      (after_requests course.effects course.begun (all_planned plan) ∷ [])

-- The first n requests were served, and the next one perhaps: each image stands for the house after
-- the first n, or after that one too. Before, each stood for the house after some first ones of them.
pub record StopsServing {House : Type 0} (course : LoadCourse House) (plan : LoadPlan)
    : Type 0 where
  pub n : ℕ
  pub more : n < plan.count
  pub over : course.over (houses_past course.effects course.begun (planned_to plan (n + 1)))
  pub at_end : course.at_end (houses_past course.effects
      (after_requests course.effects course.begun (planned_to plan n)) (planned plan n ∷ []))

-- what was served, by the status
abbrev pub EndsLoad : {House : Type 0} → LoadCourse House → LoadPlan → LoadStatus → Type 0
EndsLoad course plan Done = ServesAll course plan
EndsLoad course plan WriteFault = ServesAll course plan
EndsLoad course plan (DiskFault shard) = StopsServing course plan
EndsLoad course plan Memory = ServesAll course plan ⊎ StopsServing course plan
