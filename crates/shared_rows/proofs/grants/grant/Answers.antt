use Rattle.std.proofs.Common.{◌≡◌, ap}
use Rattle.lane_index.specs.Lanes.{ToldRecords}
use Rattle.shared_rows.proofs.PassLemmas.{told-at}
use Rattle.shared_rows.proofs.grants.grant.Goals as goal

pub returns-clause-told : goal.returns-clause-told
returns-clause-told g c =
    told-at c.args.house.now c.args.pass.now.shard c.serve.result _ c.serve.ensures.served (λ o s serves. ap (λ (t : ToldRecords). t.index) serves.published)
