use Rattle.std.proofs.Common.{List, refl, ap, sym, subst, ◌==◌, ◌∙◌}
use Rattle.std.specs.Bool.{OnTrue}
use mathlib.Core.List.{IsPrefix}
use Rattle.lane_index.specs.declared.history.HistoryEntry.{HistoryEntry}
use Rattle.lane_index.specs.Histories.{IndexHistory}
use Rattle.lane_index.proofs.HistoryLemmas.{counts_moves, covered}
use Rattle.lane_index.proofs.history.History.covers.Goals as goal

pub load-found-requires : goal.load-found-requires
load-found-requires c =
    let word = c.self.invariant.0 in
    let offer = c.plain-offer.ensures in (
      ap (λ w. w.tracked) word,
      c.learn.ensures.0 ∙ (ap (λ s. s.book) c.again-both.ensures ∙ sym (ap (λ w. w.book) word)),
      offer.0,
      rw (ap (λ w. w.key) word, offer.3) (counts_moves c.learn.new.self.log c.plain-offer.result.ask),
    )

pub returns : goal.returns
returns c =
    let seen = c.args.seen.now.log in let here = c.self.inside.seen.log in let both = c.learn.new.self.log in
    let mine : IsPrefix here both = subst (λ (l : List HistoryEntry). IsPrefix l both) (ap (λ s. s.log) c.again-both.ensures) c.learn.ensures.2 in
    subst (λ (h : IndexHistory). OnTrue (c.load-found.result == c.self.inside.count) (IsPrefix seen h.log)) c.self.view_is
    (covered seen here both c.load-found.new.seen.log c.load-found.result c.self.inside.count mine c.learn.ensures.3 c.load-found.ensures.5 c.load-found.ensures.6.1 c.self.invariant.1 (c.load-found.result == c.self.inside.count) refl)
