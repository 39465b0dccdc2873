use Rattle.std.proofs.Common.{Bool, List, ap, sym, subst, ◌∙◌, ◌++◌}
use Rattle.std.specs.Bool.{OnTrue}
use mathlib.Core.List.{IsPrefix}
use Rattle.pcp_base.specs.declared.records.Record.{Record}
use Rattle.lane_index.specs.Histories.{HasBeginning, added_in}
use Rattle.lane_index.specs.Lanes.{LaneKnowledge, WriterKnowledge}
use Rattle.lane_index.proofs.HistoryLemmas.{opening-prefix, records-prefix}
use Rattle.lane_index.proofs.WriterLemmas.{some_gives, begins-behind, pushed-of}
use Rattle.lane_index.proofs.lanes.LaneWriter.meet.Goals as goal

pub returns-then-covers-clause-opening : goal.returns-then-covers-clause-opening
returns-then-covers-clause-opening g c =
    let seen = c.lane.inside.seen.log in let h = c.self.inside.history in
    let pre : IsPrefix seen h.log = subst (λ (b : Bool). OnTrue b (IsPrefix seen h.log)) c.if-covers.true c.covers.ensures in
    sym (ap (λ (k : LaneKnowledge). k.opening) c.lane.view_is) ∙ (opening-prefix seen h.log c.lane.invariant.2.begins pre
    ∙ ap (λ (k : WriterKnowledge). k.opening) c.self.view_is)

pub returns-then-covers-clause-known : goal.returns-then-covers-clause-known
returns-then-covers-clause-known g c =
    let seen = c.lane.inside.seen.log in let h = c.self.inside.history in let shown = c.self.inside.shown.log in
    let pre : IsPrefix seen h.log = subst (λ (b : Bool). OnTrue b (IsPrefix seen h.log)) c.if-covers.true c.covers.ensures in
    let facts = some_gives _ (IsPrefix shown h.log × HasBeginning h.log) c.self.inside.writer (λ w b. begins-behind h shown w.desk.shown.value _ b) c.self.invariant.0 c.self.invariant.1 in
    subst (λ (rs : List Record). IsPrefix rs (c.args.self.now.published ++ c.args.self.now.pending)) (ap (λ (k : LaneKnowledge). k.known) c.lane.view_is)
    (subst (λ (rs : List Record). IsPrefix (added_in seen) rs) (pushed-of h shown c.args.self.now c.self.view_is facts.0)
    (records-prefix seen h.log pre))
