use Rattle.std.proofs.Common.{rules}
use Rattle.lane_index.specs.Keys.{bucket_of}
use Rattle.lane_index.proofs.keys.LeaseKey.bucket.Goals as goal

pub returns-in-OfMap-clause-exact : goal.returns-in-OfMap-clause-exact
unfolding bucket_of
returns-in-OfMap-clause-exact c = search rules

pub returns-in-OfPeer-clause-exact : goal.returns-in-OfPeer-clause-exact
unfolding bucket_of
returns-in-OfPeer-clause-exact c = search rules
