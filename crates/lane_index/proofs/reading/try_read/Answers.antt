use Rattle.std.proofs.Common.{◌≤◌, ap, sym, subst, arith, length, List}
use mathlib.Core.List.{IsPrefix}
use Rattle.lane_index.specs.declared.history.HistoryEntry.{HistoryEntry}
use Rattle.lane_index.proofs.HistoryLemmas.{prefix_shorter}
use Rattle.lane_index.proofs.ShownSteps.{enters}
use Rattle.lane_index.proofs.reading.try_read.Goals as goal

pub enter_as-requires : goal.enter_as-requires
enter_as-requires c x = enters _ _ x

pub returns-clause-more : goal.returns-clause-more
returns-clause-more c =
    let mine = c.args.seen.now.log in let theirs = c.get-copy.result.now.seen.log in
    let both = c.learn.new.self.log in
    let this : IsPrefix mine both = subst (λ (l : List HistoryEntry). IsPrefix l both) (ap (λ s. s.log) c.again-both.ensures) c.learn.ensures.2 in
    let that : IsPrefix theirs both = c.learn.ensures.3 in
    let counted = c.in-Ok.ensures.1.0.counted in
    let less : length mine ≤ length theirs = omega (arith, c.requires.known.counted, c.if-length-count.false, ap (λ r. r.count) c.get-copy.ensures, ap (λ r. length r.seen.log) c.get-copy.ensures, counted) in
    subst (λ (l : List HistoryEntry). IsPrefix mine l) (sym (ap (λ s. s.log) c.again-shown.ensures)) (prefix_shorter mine theirs both this that less)
