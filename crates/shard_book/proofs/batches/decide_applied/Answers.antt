use Rattle.std.proofs.Common.{◌≡◌, Option, refl, sym, ◌∙◌, ap}
use Rattle.pcp_base.specs.declared.records.Record.{Record}
use Rattle.pcp_base.specs.States.{State}
use Rattle.lease_core.specs.declared.decided.Decided.{Decided}
use Rattle.lease_core.specs.Decide.{decide}
use Rattle.shard_book.specs.Batches.{with_kept}
use Rattle.shard_book.proofs.DecisionLemmas.{decided_address}
use Rattle.shard_book.proofs.batches.decide_applied.Goals as goal

pub returns-clause-kept : goal.returns-clause-kept
returns-clause-kept g c = ap (λ (d : Decided). d.kept) c.decide_kept-answer.ensures.decided

pub returns-clause-state : goal.returns-clause-state
returns-clause-state g c =
    let s = g.S.LeaseStore.state c.args.core.now in
    let kept : c.decide_kept-answer.new.kept ≡ (decide (g.S.LeaseStore.terms c.args.core.now) s c.args.m c.args.ask.now).kept = ap (λ (d : Decided). d.kept) c.decide_kept-answer.ensures.decided in
    c.in_ok-apply_kept.ensures.state ∙ ap (λ (u : State). with_kept u c.decide_kept-answer.new.kept) c.decide_kept-answer.ensures.state ∙ ap (λ (k : Option Record). with_kept s k) kept

pub returns-clause-address : goal.returns-clause-address
returns-clause-address g c =
    let s = g.S.LeaseStore.state c.args.core.now in
    let terms = g.S.LeaseStore.terms c.args.core.now in
    let kept : c.decide_kept-answer.new.kept ≡ (decide terms s c.args.m c.args.ask.now).kept = ap (λ (d : Decided). d.kept) c.decide_kept-answer.ensures.decided in
    let state : g.S.LeaseStore.state c.apply_kept.new.core ≡ with_kept s (decide terms s c.args.m c.args.ask.now).kept = c.in_ok-apply_kept.ensures.state ∙ ap (λ (u : State). with_kept u c.decide_kept-answer.new.kept) c.decide_kept-answer.ensures.state ∙ ap (λ (k : Option Record). with_kept s k) kept in
    ap (λ (u : State). u.address) state ∙ decided_address terms s c.args.m c.args.ask.now
