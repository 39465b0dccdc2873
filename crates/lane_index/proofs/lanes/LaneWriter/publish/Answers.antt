use Rattle.std.proofs.Common.{rules, ◌≡◌, Some}
use Rattle.lane_index.proofs.WriterLemmas.{if_some, whole-view, told-whole}
use Rattle.lane_index.proofs.lanes.LaneWriter.publish.Goals as goal

pub returns-clause-published : goal.returns-clause-published
returns-clause-published g c =
    let there : c.self.inside.writer ≡ Some c.unwrap-writer.result = search rules in
    let behind = if_some _ c.self.inside.writer c.unwrap-writer.result there c.self.invariant.1 in
    whole-view c.self.inside.history c.self.inside.shown.log c.seen.result.log c.args.self.now c.self.view_is behind.begins c.seen.ensures.1

pub returns-clause-told : goal.returns-clause-told
returns-clause-told g c =
    let there : c.self.inside.writer ≡ Some c.unwrap-writer.result = search rules in
    let behind = if_some _ c.self.inside.writer c.unwrap-writer.result there c.self.invariant.1 in
    told-whole c.self.inside.history c.self.inside.shown.log c.seen-2.result.book c.seen-2.result.log c.args.self.now c.self.view_is behind.begins c.seen-2.ensures.0 c.seen-2.ensures.1
