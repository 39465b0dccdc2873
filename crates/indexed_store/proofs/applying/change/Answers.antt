use Rattle.std.proofs.Common.{◌≤◌, ◌+◌, sym, ap, ◌∙◌, subst, arith}
use Rattle.pcp_base.specs.Reached.{IsReached}
use Rattle.pcp_base.specs.Fits.{Fits}
use Rattle.pcp_base.specs.Apply.{apply}
use Rattle.leased_ports.specs.Leased.{Leased, IsOnTerms}
use Rattle.indexed_store.specs.Tabled.{ArePart, TabledState, tabled_state}
use Rattle.indexed_store.specs.Indexed.{IsKept}
use Rattle.indexed_store.specs.Looks.{apply_steps}
use Rattle.indexed_store.proofs.AppliedStates.{allowed-then, change-kept, near-then, noted-applied, past-then, sound-then, table-then, touched-then}
use Rattle.indexed_store.proofs.HoldSteps.{moved-within}
use Rattle.indexed_store.proofs.applying.change.Goals as goal

pub change-requires-clause-tabled : goal.change-requires-clause-tabled
change-requires-clause-tabled g c = (subst IsKept (sym c.state.view_is) c.requires.kept).tabled

pub change-requires-clause-allowed : goal.change-requires-clause-allowed
change-requires-clause-allowed g c =
    let r = c.args.kept.now in
    allowed-then c.states_are_sound.ensures.kept _ r (subst (λ (x : TabledState). IsReached x.state) (sym c.state.view_is) c.requires.sound)
    (subst IsKept (sym c.state.view_is) c.requires.kept) (subst (λ (x : TabledState). Fits x.state r) (sym c.state.view_is) c.requires.fits)
    (subst (λ (x : TabledState). x.ports.reached ≤ r.moment) (sym c.state.view_is) c.requires.later)

pub change-requires-clause-after : goal.change-requires-clause-after
change-requires-clause-after g c =
    let r = c.args.kept.now in
    sound-then c.states_are_sound.ensures.kept _ r (subst (λ (x : TabledState). IsReached x.state) (sym c.state.view_is) c.requires.sound)
    (subst IsKept (sym c.state.view_is) c.requires.kept) (subst (λ (x : TabledState). Fits x.state r) (sym c.state.view_is) c.requires.fits)
    (subst (λ (x : TabledState). x.ports.reached ≤ r.moment) (sym c.state.view_is) c.requires.later)

pub move_ports-requires-clause-leases : goal.move_ports-requires-clause-leases
move_ports-requires-clause-leases g c =
    let r = c.args.kept.now in
    near-then c.states_are_sound.ensures.kept _ r (subst (λ (x : TabledState). IsReached x.state) (sym c.state.view_is) c.requires.sound)
    (subst IsKept (sym c.state.view_is) c.requires.kept) (subst (λ (x : TabledState). Fits x.state r) (sym c.state.view_is) c.requires.fits)
    (subst (λ (x : TabledState). x.ports.reached ≤ r.moment) (sym c.state.view_is) c.requires.later) c.change.new.self.found c.in_ok-touched.ensures.table c.in_ok-touched.ensures.tabled

pub move_ports-requires-clause-later : goal.move_ports-requires-clause-later
move_ports-requires-clause-later g c = subst (λ (x : TabledState). x.ports.reached ≤ c.args.kept.now.moment) (sym c.state.view_is) c.requires.later

pub returns-in_err-move_ports-clause-terms : goal.returns-in_err-move_ports-clause-terms
returns-in_err-move_ports-clause-terms g c = λ terms h. c.move_ports.ensures.terms terms (subst (λ (x : TabledState). IsOnTerms x.ports terms) (sym c.state.view_is) h)

pub returns-clause-terms : goal.returns-clause-terms
returns-clause-terms g c = λ terms h.
    subst (λ (v : Leased). IsOnTerms v terms) (sym c.note.ensures.ports) (c.move_ports.ensures.terms terms (subst (λ (x : TabledState). IsOnTerms x.ports terms) (sym c.state.view_is) h))

pub returns-clause-applied : goal.returns-clause-applied
returns-clause-applied g c =
    let r = c.args.kept.now in let law = c.states_are_sound.ensures.kept in
    let sound = subst (λ (x : TabledState). IsReached x.state) (sym c.state.view_is) c.requires.sound in
    let kept = subst IsKept (sym c.state.view_is) c.requires.kept in
    let fits = subst (λ (x : TabledState). Fits x.state r) (sym c.state.view_is) c.requires.fits in
    let later = subst (λ (x : TabledState). x.ports.reached ≤ r.moment) (sym c.state.view_is) c.requires.later in
    let ports = c.in_ok-move_ports.ensures.ports _ sound fits c.requires.keeps kept.ports (table-then law _ r sound kept fits later c.change.new.self.found c.in_ok-touched.ensures.table)
    (touched-then law _ r sound kept fits later c.in_ok-touched.touched c.in_ok-touched.ensures.touched) in
    let ended = past-then law _ r sound kept fits later c.drop_some.new.self.past (subst (ArePart c.drop_some.new.self.past) c.in_ok-touched.ensures.past c.drop_some.ensures.past) in
    c.note.ensures.state
    ∙ noted-applied law _ r sound kept fits later c.drop_some.new.self (c.drop_some.ensures.live ∙ c.in_ok-touched.ensures.table) c.tell_all.ensures ended c.ends_are_last_ends.ensures.told c.move_ports.new.ports ports
    ∙ ap (λ (x : TabledState). apply x.state r) c.state.view_is

pub returns-clause-kept : goal.returns-clause-kept
returns-clause-kept g c =
    let r = c.args.kept.now in let law = c.states_are_sound.ensures.kept in
    let sound = subst (λ (x : TabledState). IsReached x.state) (sym c.state.view_is) c.requires.sound in
    let kept = subst IsKept (sym c.state.view_is) c.requires.kept in
    let fits = subst (λ (x : TabledState). Fits x.state r) (sym c.state.view_is) c.requires.fits in
    let later = subst (λ (x : TabledState). x.ports.reached ≤ r.moment) (sym c.state.view_is) c.requires.later in
    let ports = c.in_ok-move_ports.ensures.ports _ sound fits c.requires.keeps kept.ports (table-then law _ r sound kept fits later c.change.new.self.found c.in_ok-touched.ensures.table)
    (touched-then law _ r sound kept fits later c.in_ok-touched.touched c.in_ok-touched.ensures.touched) in
    let ended = past-then law _ r sound kept fits later c.drop_some.new.self.past (subst (ArePart c.drop_some.new.self.past) c.in_ok-touched.ensures.past c.drop_some.ensures.past) in
    change-kept law _ r sound kept fits later c.drop_some.new.self (c.drop_some.ensures.live ∙ c.in_ok-touched.ensures.table) c.tell_all.ensures ended c.ends_are_last_ends.ensures.told c.move_ports.new.ports ports
    c.note.new.self (record {
      state = c.note.ensures.state;
      leases = c.note.ensures.leases;
      past = c.note.ensures.past;
      all = c.note.ensures.all;
      ports = c.note.ensures.ports;
      reached = c.in_ok-move_ports.ensures.reached;
      tabled = c.drop_some.ensures.tabled;
      whole = c.tell_all.ensures;
      ended = ended;
    })

pub returns-clause-reached : goal.returns-clause-reached
returns-clause-reached g c = ap (λ (v : Leased). v.reached) c.note.ensures.ports ∙ c.in_ok-move_ports.ensures.reached

pub returns-in_err-touched-clause-steps : goal.returns-in_err-touched-clause-steps
returns-in_err-touched-clause-steps g c =
    let i = c.state.inside in let r = c.args.kept.now in let changed = c.change.ensures.steps in
    let within : c.change.new.steps ≤ c.args.steps.now + apply_steps (tabled_state i.leases i.ports i.base i.address i.last i.started) r = omega (arith, changed) in
    subst (λ (x : TabledState). c.change.new.steps ≤ c.args.steps.now + apply_steps x r) c.state.view_is within

pub returns-in_err-move_ports-clause-steps : goal.returns-in_err-move_ports-clause-steps
returns-in_err-move_ports-clause-steps g c =
    let i = c.state.inside in let r = c.args.kept.now in let is = c.in_ok-touched.ensures.touched in
    let moved = moved-within i.leases.found c.change.new.self.found i.ports r c.in_ok-touched.touched is c.in_ok-touched.ensures.peers_from c.args.steps.now c.change.new.steps c.move_ports.new.steps
    c.change.ensures.steps (c.move_ports.ensures.steps _ is) in
    let within : c.move_ports.new.steps ≤ c.args.steps.now + apply_steps (tabled_state i.leases i.ports i.base i.address i.last i.started) r = omega (arith, moved) in
    subst (λ (x : TabledState). c.move_ports.new.steps ≤ c.args.steps.now + apply_steps x r) c.state.view_is within

pub returns-clause-steps : goal.returns-clause-steps
returns-clause-steps g c =
    let i = c.state.inside in let r = c.args.kept.now in let is = c.in_ok-touched.ensures.touched in let dropped = c.drop_some.ensures.steps in
    let moved = moved-within i.leases.found c.change.new.self.found i.ports r c.in_ok-touched.touched is c.in_ok-touched.ensures.peers_from c.args.steps.now c.change.new.steps c.move_ports.new.steps
    c.change.ensures.steps (c.move_ports.ensures.steps _ is) in
    let within : c.drop_some.new.steps ≤ c.args.steps.now + apply_steps (tabled_state i.leases i.ports i.base i.address i.last i.started) r = omega (arith, moved, dropped) in
    subst (λ (x : TabledState). c.drop_some.new.steps ≤ c.args.steps.now + apply_steps x r) c.state.view_is within
