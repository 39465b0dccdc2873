use Rattle.std.proofs.Common.{List, refl, ap, ◌∙◌, arith}
use Rattle.pcp_base.specs.declared.leases.End.{End}
use Rattle.port_spans.specs.declared.runs.Run.{Run}
use Rattle.leased_ports.specs.Kept.{end_by}
use Rattle.leased_ports.specs.Recorded.{end_by_rest}
use Rattle.indexed_store.proofs.HoldSteps.{touched-same}
use Rattle.indexed_store.proofs.MoveLemmas.{both_ok, on_moved, runs_moved}
use Rattle.indexed_store.proofs.PortsAfter.{ports-after}
use Rattle.indexed_store.proofs.applying.move_ports.Goals as goal

pub returns-in_err-hold_rest-clause-terms : goal.returns-in_err-hold_rest-clause-terms
returns-in_err-hold_rest-clause-terms g c = λ terms h.
    c.hold_rest.ensures.terms terms (on_moved c.args.ports.now c.reach.new.self c.args.kept.now.moment terms c.reach.ensures.moved h)

pub returns-clause-terms : goal.returns-clause-terms
returns-clause-terms g c = λ terms h.
    c.hold_touched.ensures.terms terms
    (c.hold_rest.ensures.terms terms (on_moved c.args.ports.now c.reach.new.self c.args.kept.now.moment terms c.reach.ensures.moved h))

pub returns-clause-ports : goal.returns-clause-ports
returns-clause-ports g c = both_ok c.hold_touched.result _ _ _ (λ held moment s reached fits keeps ports table is.
    let r = c.args.kept.now in
    ports-after c.ports_follow_states.ensures.told c.records_tell_last_ends.ensures.ports s r reached fits keeps
    c.args.leases.now.found c.args.touched c.args.ports.now c.hold_rest.new.ports c.hold_touched.new.ports table is ports
    (λ protocol port. c.in_ok-hold_rest.ensures.ports protocol port ∙ ap (λ (runs : List (Run End)). end_by_rest r.change protocol port (end_by runs protocol port))
    (runs_moved c.args.ports.now c.reach.new.self r.moment c.reach.ensures.moved)) held moment)
    c.hold_touched.ensures.ports c.hold_touched.ensures.reached

pub returns-in_err-hold_rest-clause-steps : goal.returns-in_err-hold_rest-clause-steps
returns-in_err-hold_rest-clause-steps g c = λ t is. let reached = c.reach.ensures.steps in let rested = c.hold_rest.ensures.steps in omega (arith, reached, rested)

pub returns-clause-steps : goal.returns-clause-steps
returns-clause-steps g c = λ t is.
    let reached = c.reach.ensures.steps in let rested = c.hold_rest.ensures.steps in let held = c.hold_touched.ensures.steps refl in
    let same = touched-same c.args.leases.now.found.peers c.args.touched _ c.args.ports.now c.reach.new.self c.hold_rest.new.ports is (c.hold_rest.ensures.stay t)
    (runs_moved c.args.ports.now c.reach.new.self c.args.kept.now.moment c.reach.ensures.moved) in
    omega (arith, reached, rested, held, same)
