use Rattle.std.proofs.Common.{◌≤◌, ap, sym, subst, arith, length, List}
use mathlib.Core.List.{IsPrefix}
use Rattle.lane_index.specs.declared.history.HistoryEntry.{HistoryEntry}
use Rattle.lane_index.specs.Histories.{added_in}
use Rattle.lane_index.specs.Lanes.{LaneKnowledge, ToldRecords}
use Rattle.lane_index.proofs.HistoryLemmas.{prefix_shorter, records-prefix}
use Rattle.lane_index.proofs.lanes.Lane.learn.Goals as goal

pub returns-then-self-told-clause-known : goal.returns-then-self-told-clause-known
returns-then-self-told-clause-known c =
    let mine = c.self.inside.seen.log in let theirs = c.told.inside.seen.log in
    let both = c.learn.new.self.log in
    let this : IsPrefix mine both = subst (λ (l : List HistoryEntry). IsPrefix l both) (ap (λ s. s.log) c.again-both.ensures) c.learn.ensures.2 in
    let that : IsPrefix theirs both = c.learn.ensures.3 in
    let less : length mine ≤ length theirs = omega (arith, c.self.invariant.2.counted, c.told.invariant.counted, c.if-self-told.true) in
    let p = records-prefix mine theirs (prefix_shorter mine theirs both this that less) in
    subst (λ (w : LaneKnowledge). IsPrefix w.known (added_in c.again.result.log)) c.self.view_is (subst (λ (l : List HistoryEntry). IsPrefix (added_in mine) (added_in l)) (ap (λ s. s.log) (sym c.again.ensures)) p)

pub returns-clause-told : goal.returns-clause-told
returns-clause-told c =
    let mine = c.self.inside.seen.log in let theirs = c.told.inside.seen.log in
    let both = c.learn.new.self.log in
    let this : IsPrefix mine both = subst (λ (l : List HistoryEntry). IsPrefix l both) (ap (λ s. s.log) c.again-both.ensures) c.learn.ensures.2 in
    let that : IsPrefix theirs both = c.learn.ensures.3 in
    let less : length theirs ≤ length mine = omega (arith, c.self.invariant.2.counted, c.told.invariant.counted, c.if-self-told.false) in
    let p = records-prefix theirs mine (prefix_shorter theirs mine both that this less) in
    subst (λ (w : LaneKnowledge). IsPrefix c.args.told.now.records w.known) c.self.view_is (subst (λ (w : ToldRecords). IsPrefix w.records (added_in mine)) c.told.view_is p)
