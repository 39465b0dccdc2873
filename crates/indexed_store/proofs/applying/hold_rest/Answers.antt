use Rattle.std.proofs.Common.{◌≡◌, IfSome, refl, sym, ◌∙◌, subst}
use Rattle.std.proofs.lemmas.Result.{on_ok_weaker}
use Rattle.pcp_base.specs.declared.records.Change.{Change}
use Rattle.leased_ports.specs.Leased.{Leased, IsOnTerms, OnlyEndsChange}
use Rattle.indexed_store.specs.Runs.{touched_run}
use Rattle.indexed_store.proofs.MoveLemmas.{any_if, either_way, on_anew, on_changed}
use Rattle.indexed_store.proofs.applying.hold_rest.Goals as goal

pub returns-in_default-clause-stay : goal.returns-in_default-clause-stay
returns-in_default-clause-stay g c = λ t. any_if (touched_run c.args.change.now t) (c.args.ports.now ≡ c.args.ports.now) refl

pub returns-clause-terms : goal.returns-clause-terms
returns-clause-terms g c = λ terms h.
    let v = c.args.ports.now in let w = c.put.new.self in
    either_way c.put.result (OnlyEndsChange v w) _ (IsOnTerms w terms) (on_changed v w terms h)
    (λ is. subst (λ (x : Leased). IsOnTerms x terms) (sym is) (on_anew v terms h)) c.put.ensures.ok c.put.ensures.err

pub returns-clause-reached : goal.returns-clause-reached
returns-clause-reached g c =
    on_ok_weaker c.put.result (λ (only : OnlyEndsChange c.args.ports.now c.put.new.self). only.reached ∙ c.requires.reached) c.put.ensures.ok

pub returns-clause-stay : goal.returns-clause-stay
returns-clause-stay g c = λ t. subst (λ (x : Change). IfSome (touched_run x t) (λ run. c.put.new.self ≡ c.args.ports.now)) (sym c.in-Rest.is) tt
