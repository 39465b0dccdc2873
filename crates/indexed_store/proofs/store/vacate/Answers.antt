use Rattle.std.proofs.Common.{sym, subst}
use Rattle.leased_ports.specs.Leased.{Leased, IsOnTerms}
use Rattle.indexed_store.proofs.KeptStates.{new-kept}
use Rattle.indexed_store.proofs.MoveLemmas.{on_anew}
use Rattle.indexed_store.proofs.store.vacate.Goals as goal

pub returns-clause-terms : goal.returns-clause-terms
returns-clause-terms c = λ terms h. subst (λ (v : Leased). IsOnTerms v terms) (sym c.clear.ensures.ports) (on_anew c.args.state.now.ports terms h)

pub returns-clause-kept : goal.returns-clause-kept
returns-clause-kept c =
    let v = c.args.state.now.ports in
    new-kept c.ports_follow_states.ensures.new c.clear.new.self v.low v.high v.quota c.clear.ensures.new c.clear.ensures.ports
