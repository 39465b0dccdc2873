use Rattle.std.proofs.Common.{◌≡◌, sym, ap, ◌∙◌, subst}
use Rattle.pcp_base.specs.Apply.{apply}
use Rattle.leased_ports.specs.Leased.{Leased, IsOnTerms, vacated}
use Rattle.indexed_store.specs.Tabled.{TabledState, state_in}
use Rattle.indexed_store.proofs.AppliedStates.{begin-applied, begin-kept}
use Rattle.indexed_store.proofs.MoveLemmas.{moved_from, on_anew, on_moved}
use Rattle.indexed_store.proofs.applying.begin.Goals as goal

pub returns-clause-terms : goal.returns-clause-terms
returns-clause-terms g c = λ terms h.
    let v = c.state.inside.ports in
    subst (λ (x : Leased). IsOnTerms x terms) (sym c.note.ensures.ports)
    (on_moved (vacated v) c.reach.new.self c.args.kept.now.moment terms (moved_from c.clear-2.new.self c.reach.new.self (vacated v) c.args.kept.now.moment c.reach.ensures.moved c.clear-2.ensures)
    (on_anew v terms (subst (λ (x : TabledState). IsOnTerms x.ports terms) (sym c.state.view_is) h)))

pub returns-clause-applied : goal.returns-clause-applied
returns-clause-applied g c =
    let i = c.state.inside in
    subst (λ (x : TabledState). c.note.new.self.state ≡ apply x.state c.args.kept.now) c.state.view_is
    (begin-applied c.records_tell_last_ends.ensures.anew (state_in i.leases.all i.ports i.base i.address i.last i.started) c.args.kept.now c.requires c.clear.new.self c.reach.new.self i.ports
    c.clear.ensures (moved_from c.clear-2.new.self c.reach.new.self (vacated i.ports) c.args.kept.now.moment c.reach.ensures.moved c.clear-2.ensures) c.note.new.self c.note.ensures.state)

pub returns-clause-kept : goal.returns-clause-kept
returns-clause-kept g c =
    let i = c.state.inside in
    begin-kept c.records_tell_last_ends.ensures.anew (state_in i.leases.all i.ports i.base i.address i.last i.started) c.args.kept.now c.requires c.clear.new.self c.reach.new.self i.ports
    c.clear.ensures (moved_from c.clear-2.new.self c.reach.new.self (vacated i.ports) c.args.kept.now.moment c.reach.ensures.moved c.clear-2.ensures)
    c.note.new.self c.note.ensures.state c.note.ensures.leases c.note.ensures.past c.note.ensures.all c.note.ensures.ports

pub returns-clause-reached : goal.returns-clause-reached
returns-clause-reached g c = ap (λ (v : Leased). v.reached) (c.note.ensures.ports ∙ c.reach.ensures.moved)
