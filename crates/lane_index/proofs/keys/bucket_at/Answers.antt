use Rattle.std.proofs.Common.{rules}
use Rattle.lane_index.specs.Keys.{bucket_at}
use Rattle.lane_index.proofs.keys.bucket_at.Goals as goal

pub returns-clause-exact : goal.returns-clause-exact
unfolding bucket_at
returns-clause-exact c = search rules
