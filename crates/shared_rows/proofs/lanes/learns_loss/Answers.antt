use Rattle.std.proofs.Common.{◌∙◌, ap}
use Rattle.lane_index.specs.Lanes.{ToldRecords}
use Rattle.shared_rows.proofs.lanes.learns_loss.Goals as goal

pub learn-requires : goal.learn-requires
learn-requires g c =
    ap (λ (t : ToldRecords). t.index) (c.in-Ok.ensures.lost c.requires.lane.opening c.requires.lane.begins).published ∙ c.requires.lane.index_is
