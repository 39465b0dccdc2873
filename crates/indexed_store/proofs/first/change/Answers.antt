use Rattle.std.proofs.Common.{◌≤◌, sym, ap, ◌∙◌, subst}
use Rattle.pcp_base.specs.Tables.{Table}
use Rattle.pcp_base.specs.Apply.{apply_first}
use Rattle.leased_ports.specs.Leased.{Leased, IsOnTerms}
use Rattle.indexed_store.specs.Tabled.{TabledState}
use Rattle.indexed_store.specs.Holding.{AreEndsOf}
use Rattle.indexed_store.proofs.KeptStates.{on-settled}
use Rattle.indexed_store.proofs.FirstStates.{kept-first, left-ready, next-inside, next-later, next-ports, next-table, noted-first, old-near}
use Rattle.indexed_store.proofs.first.change.Goals as goal

pub reach-requires : goal.reach-requires
reach-requires g c = next-later _ c.args.kept.now (next-inside _ c.args.kept.now c.state.view_is c.requires.kept c.requires.sound c.requires.fits c.requires.at_last)

pub drop_dead-requires-clause-near : goal.drop_dead-requires-clause-near
drop_dead-requires-clause-near g c =
    old-near c.sound_tables_have_sound_maps.ensures c.sound_tables_have_sound_peers.ensures c.first_states_are_sound.ensures.kept _ c.args.kept.now
    (next-inside _ c.args.kept.now c.state.view_is c.requires.kept c.requires.sound c.requires.fits c.requires.at_last)

pub drop_dead-requires-clause-later : goal.drop_dead-requires-clause-later
drop_dead-requires-clause-later g c = (next-inside _ c.args.kept.now c.state.view_is c.requires.kept c.requires.sound c.requires.fits c.requires.at_last).fits.later

pub drop_dead-requires-clause-reached : goal.drop_dead-requires-clause-reached
drop_dead-requires-clause-reached g c = ap (λ (v : Leased). v.reached) c.reach.ensures.moved

pub make_change-requires-clause-ready : goal.make_change-requires-clause-ready
make_change-requires-clause-ready g c =
    left-ready c.sound_tables_have_sound_maps.ensures c.sound_tables_have_sound_peers.ensures c.first_states_are_sound.ensures.kept _ c.args.kept.now
    (next-inside _ c.args.kept.now c.state.view_is c.requires.kept c.requires.sound c.requires.fits c.requires.at_last) c.drop_dead.new.leases.found c.in_ok-drop_dead.ensures.table

pub make_change-requires-clause-ports : goal.make_change-requires-clause-ports
make_change-requires-clause-ports g c =
    let r = c.args.kept.now in
    let next = next-inside _ r c.state.view_is c.requires.kept c.requires.sound c.requires.fits c.requires.at_last in
    let later = next-later _ r next in
    subst (λ (t : Table). AreEndsOf r.moment t c.drop_dead.new.ports) (sym c.in_ok-drop_dead.ensures.table)
    (c.in_ok-drop_dead.ensures.ports _ next.first (next-table _ r next) next.fits.later (next-ports c.ports_follow_states.ensures.later _ r next later c.reach.new.self c.reach.new.self.settled c.reach.ensures.moved))

pub returns-clause-applied : goal.returns-clause-applied
returns-clause-applied g c =
    c.note.ensures.state
    ∙ noted-first c.sound_tables_have_sound_maps.ensures c.sound_tables_have_sound_peers.ensures c.first_states_are_sound.ensures.kept _ c.args.kept.now
    (next-inside _ c.args.kept.now c.state.view_is c.requires.kept c.requires.sound c.requires.fits c.requires.at_last) c.drop_dead.new.leases.found c.in_ok-drop_dead.ensures.table
    c.ends_are_last_ends.ensures.told c.make_change.new.leases c.make_change.new.ports c.tell_all.ensures (c.make_change.ensures.past ∙ c.drop_dead.ensures.past) c.in_ok-make_change.ensures.table c.in_ok-make_change.ensures.ports c.in_ok-make_change.ensures.reached
    ∙ ap (λ (x : TabledState). apply_first x.state c.args.kept.now) c.state.view_is

pub returns-clause-kept : goal.returns-clause-kept
returns-clause-kept g c =
    kept-first c.sound_tables_have_sound_maps.ensures c.sound_tables_have_sound_peers.ensures c.first_states_are_sound.ensures.kept _ c.args.kept.now
    (next-inside _ c.args.kept.now c.state.view_is c.requires.kept c.requires.sound c.requires.fits c.requires.at_last) c.drop_dead.new.leases.found c.in_ok-drop_dead.ensures.table
    c.ends_are_last_ends.ensures.told c.make_change.new.leases c.make_change.new.ports c.tell_all.ensures (c.make_change.ensures.past ∙ c.drop_dead.ensures.past) c.in_ok-make_change.ensures.table c.in_ok-make_change.ensures.ports c.in_ok-make_change.ensures.reached
    c.note.new.self c.note.ensures.state c.note.ensures.leases c.note.ensures.past c.note.ensures.all c.note.ensures.ports c.in_ok-make_change.ensures.tabled

pub returns-clause-reached : goal.returns-clause-reached
returns-clause-reached g c = ap (λ (v : Leased). v.reached) c.note.ensures.ports ∙ c.in_ok-make_change.ensures.reached

pub returns-in_err-drop_dead-clause-terms : goal.returns-in_err-drop_dead-clause-terms
returns-in_err-drop_dead-clause-terms g c = λ terms h.
    c.drop_dead.ensures.terms terms (subst (λ (v : Leased). IsOnTerms v terms) (sym c.reach.ensures.moved)
    (on-settled _ c.args.kept.now.moment c.reach.new.self.settled terms (subst (λ (x : TabledState). IsOnTerms x.ports terms) (sym c.state.view_is) h)))

pub returns-in_err-make_change-clause-terms : goal.returns-in_err-make_change-clause-terms
returns-in_err-make_change-clause-terms g c = λ terms h.
    c.make_change.ensures.terms terms (c.drop_dead.ensures.terms terms (subst (λ (v : Leased). IsOnTerms v terms) (sym c.reach.ensures.moved)
    (on-settled _ c.args.kept.now.moment c.reach.new.self.settled terms (subst (λ (x : TabledState). IsOnTerms x.ports terms) (sym c.state.view_is) h))))

pub returns-clause-terms : goal.returns-clause-terms
returns-clause-terms g c = λ terms h.
    subst (λ (v : Leased). IsOnTerms v terms) (sym c.note.ensures.ports) (c.make_change.ensures.terms terms (c.drop_dead.ensures.terms terms (subst (λ (v : Leased). IsOnTerms v terms) (sym c.reach.ensures.moved)
    (on-settled _ c.args.kept.now.moment c.reach.new.self.settled terms (subst (λ (x : TabledState). IsOnTerms x.ports terms) (sym c.state.view_is) h)))))
