-- Passes stay passes of the house.
use Rattle.std.proofs.Common.{◌+◌, [], ◌∷◌, ◌∙◌}
use Rattle.job_workers.specs.HouseCalls.{HouseCalls}
use Rattle.request_workers.specs.Passes.{PassesStay}

pub passes_stay : {P : Type 0} (house : HouseCalls P) → PassesStay house
passes_stay house shard ds [] h p = tt
passes_stay house shard ds (r ∷ rs) h p =
    ((h.0.stays.is p.0.0, h.0.stays.place ∙ p.0.1), passes_stay house (shard + 1) ds rs h.1 p.1)
