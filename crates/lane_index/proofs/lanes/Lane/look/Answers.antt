use Rattle.std.proofs.Common.{subst}
use mathlib.Core.List.{IsPrefix}
use Rattle.lane_index.specs.Histories.{added_in}
use Rattle.lane_index.specs.Lanes.{LaneKnowledge}
use Rattle.lane_index.proofs.HistoryLemmas.{records-prefix}
use Rattle.lane_index.proofs.lanes.Lane.look.Goals as goal

pub returns-clause-known : goal.returns-clause-known
returns-clause-known g c = subst (λ (w : LaneKnowledge). IsPrefix w.known (added_in c.read-reader.new.seen.log)) c.self.view_is (records-prefix c.self.inside.seen.log c.read-reader.new.seen.log c.read-reader.ensures.more)
