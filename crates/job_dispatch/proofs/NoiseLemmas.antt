-- What is counted of noise.
use Rattle.std.proofs.Common.{◌≡◌, ℕ, ◌/◌, ◌==◌, Bool, true, false, List, [], ◌∷◌, refl, sym, ap, ◌∙◌, if◌then◌else◌}
use Rattle.pcp_base.specs.declared.configs.Config.{Config}
use Rattle.pcp_announce.specs.declared.doors.Group.{Group}
use Rattle.job_workers.specs.HouseCalls.{HouseCalls}
use Rattle.job_dispatch.specs.declared.noise.NoiseCounts.{NoiseCounts}
use Rattle.job_dispatch.specs.Dispatches.{Dispatched, Fate, Put, Full, Waits, Joins, Noise, Starved, Ignored, Given, Late, is_noise_for, noise_by_fate}
use Rattle.job_dispatch.specs.Dispatching.{DispatchState, DoesStep, DoesSteps}
use Rattle.job_dispatch.specs.Noise.{in_second, noise_put}
use Rattle.job_dispatch.specs.PortsAfter.{dropped_after, dropped_by, dropped_by_fate}

begun_dropped : (b : Bool) (noise : NoiseCounts) (second : ℕ) → (if b then noise else record noise { second = second; put = 0 }).dropped ≡ noise.dropped
begun_dropped true noise second = refl
begun_dropped false noise second = refl

put_dropped : (b : Bool) (noise : NoiseCounts) → (if b then noise_put noise else noise).dropped ≡ noise.dropped
put_dropped true noise = refl
put_dropped false noise = refl

-- of an item, by its fate
by_fate : (config : Config) (noise : NoiseCounts) (fate : Fate) → (noise_by_fate config noise fate).dropped ≡ dropped_by_fate noise.dropped fate
by_fate config noise (Put shard job) = put_dropped (is_noise_for config shard job) noise
by_fate config noise (Full shard job) = refl
by_fate config noise (Waits shard) = refl
by_fate config noise (Joins shard) = refl
by_fate config noise (Noise shard job) = refl
by_fate config noise Starved = refl
by_fate config noise Ignored = refl

in_item : (config : Config) (noise : NoiseCounts) (second : ℕ) (fate : Fate) → (noise_by_fate config (in_second noise second) fate).dropped ≡ dropped_by_fate noise.dropped fate
in_item config noise second fate =
    by_fate config (in_second noise second) fate ∙ ap (λ n. dropped_by_fate n fate) (begun_dropped (noise.second == second) noise second)

in_step : {P : Type 0} (house : HouseCalls P) (config : Config) (groups : List Group) (port : ℕ) (d : Dispatched) (a b : DispatchState P) → DoesStep house config groups port d a b
    → b.noise.dropped ≡ dropped_by a.noise.dropped d
in_step house config groups port (Given item fate) a b does = ap (λ (n : NoiseCounts). n.dropped) does.noise ∙ in_item config a.noise (does.time / 1000) fate
in_step {P} house config groups port (Late shard) a b does = ap (λ (s : DispatchState P). s.noise.dropped) does.1

-- so much was dropped in all
pub dropped_steps : {P : Type 0} (house : HouseCalls P) (config : Config) (groups : List Group) (port : ℕ) (ds : List Dispatched) (a b : DispatchState P) → DoesSteps house config groups port ds a b → b.noise.dropped ≡ dropped_after a.noise.dropped ds
dropped_steps {P} house config groups port [] a b does = ap (λ (s : DispatchState P). s.noise.dropped) does
dropped_steps house config groups port (d ∷ ds) a b does =
    dropped_steps house config groups port ds does.0 b does.2 ∙ ap (λ n. dropped_after n ds) (in_step house config groups port d a does.0 does.1)
