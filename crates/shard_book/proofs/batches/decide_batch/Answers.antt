use Rattle.std.specs.Prelude.{IfSome}
use Rattle.std.proofs.Common.{◌≡◌, ◌≤◌, ◌+◌, ◌∷◌, List, drop, length, refl, subst, sym, ◌∙◌, ap}
use Rattle.std.proofs.lemmas.List.{drop_more}
use Rattle.std.specs.List.{AllByRecursion}
use Rattle.pcp_base.specs.declared.asks.Ask.{Ask}
use Rattle.pcp_base.specs.declared.records.Record.{Record}
use Rattle.pcp_base.specs.Apply.{apply_all}
use Rattle.pcp_base.specs.Asks.{IsWellFormedAsk}
use Rattle.pcp_base.specs.Fits.{AllFit, Fits}
use Rattle.pcp_base.specs.States.{State}
use Rattle.lease_core.specs.Decide.{decide}
use Rattle.shard_book.specs.Batches.{with_kept}
use Rattle.shard_book.proofs.DecisionLemmas.{apply_kept, few_kept, fit_kept, turn_answers, turn_records}
use Rattle.shard_book.proofs.batches.decide_batch.Goals as goal

pub loop-ask-preserved : goal.loop-ask-preserved
loop-ask-preserved g c =
    let inv = c.loop-ask.invariant in
    let i = c.loop-ask.ask-index in
    let asks = c.args.asks.now in
    let ask = c.ask-item.result in
    let s0 = g.S.LeaseStore.state c.args.core.now in
    let s = g.S.LeaseStore.state c.loop-ask.core in
    let terms = g.S.LeaseStore.terms c.loop-ask.core in
    let d = decide terms s c.args.m ask in
    let rest : drop i asks ≡ ask ∷ drop (i + 1) asks = drop_more asks i ask c.loop-ask-test.true ∙ ap (λ (x : Ask). x ∷ drop (i + 1) asks) (sym c.ask-item.is) in
    let one = c.in_ok-decide_one.ensures in
    record {
      ready = one.ready;
      terms = one.terms ∙ inv.terms;
      state = one.state ∙ ap (λ (u : State). with_kept u d.kept) inv.state ∙ sym (apply_kept s0 c.loop-ask.batch.records.items d.kept) ∙ ap (apply_all s0) (sym one.records);
      fit = subst (AllFit s0) (sym one.records) (fit_kept s0 c.loop-ask.batch.records.items d.kept inv.fit (subst (λ (u : State). IfSome d.kept (Fits u)) inv.state c.decide_one.ensures.fits));
      few = subst (λ (l : List Record). length l ≤ i + 1) (sym one.records) (few_kept c.loop-ask.batch.records.items d.kept i inv.few);
      address = one.address ∙ inv.address;
      formed = (subst (AllByRecursion IsWellFormedAsk) rest inv.formed).1;
      answered = turn_answers terms _ s _ c.args.m c.args.base ask (drop (i + 1) asks) (drop i asks) d c.loop-ask.batch.answers.items c.decide_one.new.batch.answers.items _ rest refl one.state one.terms one.answers inv.answered;
      recorded = turn_records terms _ s _ c.args.m ask (drop (i + 1) asks) (drop i asks) d c.loop-ask.batch.records.items c.decide_one.new.batch.records.items _ rest refl one.state one.terms one.records inv.recorded;
    }
