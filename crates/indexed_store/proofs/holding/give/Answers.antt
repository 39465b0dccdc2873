use Rattle.std.proofs.Common.{◌≡◌, ℕ, ◌+◌, ◌*◌, ◌≤◌, true, false, sym, ap, ◌∙◌, subst}
use Rattle.std.proofs.lemmas.Result.{on_ok_weaker}
use Rattle.pcp_base.specs.declared.leases.End.{End}
use Rattle.port_spans.specs.declared.runs.Run.{Run}
use Rattle.port_spans.specs.Along.{spot_of}
use Rattle.leased_ports.specs.declared.steps.TheConstants.{PUT_STEPS, TAKEN_STEPS}
use Rattle.leased_ports.specs.Among.{runs_among}
use Rattle.leased_ports.specs.Leased.{Leased, IsOnTerms, OnlyEndsChange}
use Rattle.leased_ports.specs.Steps.{IsOwnRun}
use Rattle.indexed_store.specs.declared.holding.Unowned.{Unowned}
use Rattle.indexed_store.specs.Holding.{has_end}
use Rattle.indexed_store.proofs.HoldSteps.{given-within}
use Rattle.indexed_store.proofs.MoveLemmas.{either_way, on_anew, on_changed}
use Rattle.indexed_store.proofs.holding.give.Goals as goal

pub returns-then-has_end-clause-terms : goal.returns-then-has_end-clause-terms
returns-then-has_end-clause-terms g c = λ terms h.
    let v = c.args.ports.now in let w = c.put_run.new.self in
    either_way c.put_run.result (OnlyEndsChange v w) _ (IsOnTerms w terms) (on_changed v w terms h)
    (λ is. subst (λ (x : Leased). IsOnTerms x terms) (sym is) (on_anew v terms h)) c.put_run.ensures.ok c.put_run.ensures.err

pub returns-then-has_end-clause-reached : goal.returns-then-has_end-clause-reached
returns-then-has_end-clause-reached g c =
    on_ok_weaker c.put_run.result (λ (only : OnlyEndsChange c.args.ports.now c.put_run.new.self). only.reached ∙ c.requires.reached) c.put_run.ensures.ok

pub returns-then-has_end-clause-steps : goal.returns-then-has_end-clause-steps
returns-then-has_end-clause-steps g c = λ rests.
    let v = c.args.ports.now in let r = c.args.run.now in let before = c.args.steps.now in let after = c.put_run.new.steps in
    given-within v r c.args.until c.requires.run before after
    (subst (λ (e : End). (x : Run End) → IsOwnRun v.runs e r.count x → after ≤ before + PUT_STEPS) c.end_at.ensures c.put_run.ensures.own)
    (subst (λ (e : End). after ≤ before + PUT_STEPS + TAKEN_STEPS * runs_among v.runs (spot_of e) r.count) c.end_at.ensures c.put_run.ensures.steps)

pub returns-clause-terms : goal.returns-clause-terms
returns-clause-terms g c = λ terms h.
    let v = c.args.ports.now in let w = c.free_run.new.self in
    either_way c.free_run.result (OnlyEndsChange v w) _ (IsOnTerms w terms) (on_changed v w terms h)
    (λ is. subst (λ (x : Leased). IsOnTerms x terms) (sym is) (on_anew v terms h)) c.free_run.ensures.ok c.free_run.ensures.err

pub returns-clause-reached : goal.returns-clause-reached
returns-clause-reached g c =
    on_ok_weaker c.free_run.result (λ (only : OnlyEndsChange c.args.ports.now c.free_run.new.self). only.reached ∙ c.requires.reached) c.free_run.ensures.ok

pub returns-clause-steps : goal.returns-clause-steps
returns-clause-steps g c = λ rests.
    let never : true ≡ false = sym (ap (λ (u : Unowned). has_end u c.args.m c.args.until) rests) ∙ sym c.has_end.ensures ∙ c.if-has_end.false in
    absurd cc
