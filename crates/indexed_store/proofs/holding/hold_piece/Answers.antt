use Rattle.std.proofs.Common.{◌≡◌, ℕ, ◌+◌, ◌*◌, ◌≤◌, false, length, sym, subst, arith}
use Rattle.step_count.specs.Levels.{levels}
use Rattle.pcp_base.specs.Tables.{Table}
use Rattle.indexed_store.specs.Holding.{IsHold}
use Rattle.indexed_store.specs.Looks.{is_parted, most_levels, run_steps}
use Rattle.indexed_store.specs.Runs.{up_to}
use Rattle.indexed_store.proofs.DropSteps.{peers-most}
use Rattle.indexed_store.proofs.HoldSteps.{piece-each, piece-within}
use Rattle.indexed_store.proofs.HoldingLemmas.{piece-holds, until-bounds}
use Rattle.indexed_store.proofs.RunLemmas.{formed_up_to}
use Rattle.indexed_store.proofs.Views.{found_is}
use Rattle.indexed_store.proofs.holding.hold_piece.Goals as goal

pub give-requires-clause-run : goal.give-requires-clause-run
give-requires-clause-run g c = formed_up_to c.hold_along-hold.result.count c.args.run.now c.requires.run c.hold_along-hold.ensures.hold.some c.hold_along-hold.ensures.hold.few

pub give-requires-clause-until : goal.give-requires-clause-until
give-requires-clause-until g c =
    let bounds = c.requires.bounds in
    let hold = subst (λ (t : Table). IsHold c.args.from t.peers c.args.run.now c.hold_along-hold.result) (found_is c.leases.view_is) c.hold_along-hold.ensures.hold in
    until-bounds c.args.m c.args.leases.now.found c.requires.near c.args.run.now c.args.from c.hold_along-hold.result hold c.requires.from (omega (arith, bounds))

pub returns-clause-ports : goal.returns-clause-ports
returns-clause-ports g c =
    let hold = subst (λ (t : Table). IsHold c.args.from t.peers c.args.run.now c.hold_along-hold.result) (found_is c.leases.view_is) c.hold_along-hold.ensures.hold in
    piece-holds c.args.m c.args.leases.now.found c.requires.near c.args.run.now c.args.from c.hold_along-hold.result hold c.requires.from
    c.args.unowned c.args.ports.now c.give.new.ports c.in_ok-give.ensures.ports

pub returns-clause-whole : goal.returns-clause-whole
returns-clause-whole g c = λ unparted. c.hold_along-hold.ensures.whole (subst (λ (t : Table). is_parted t.peers c.args.run.now ≡ false) (sym (found_is c.leases.view_is)) unparted)

pub returns-clause-each : goal.returns-clause-each
returns-clause-each g c = λ rests.
    let given = c.give.ensures.steps rests in let n = c.hold_along-hold.result.count in
    let looked = subst (λ (t : Table). c.hold_along-hold.new.steps ≤ c.args.steps.now + 18 * levels (length t.peers)) (found_is c.leases.view_is) c.hold_along-hold.ensures.steps in
    let most = peers-most c.levels_grow.ensures c.args.leases.now.found c.requires.near.tabled in
    let spent : c.give.new.steps ≤ c.args.steps.now + (18 * most_levels + run_steps c.args.ports.now (up_to n c.args.run.now)) = omega (arith, given, looked, most) in
    piece-each c.args.ports.now c.args.run.now n c.args.steps.now c.give.new.steps c.hold_along-hold.ensures.hold.some spent

pub returns-in_err-give-clause-steps : goal.returns-in_err-give-clause-steps
returns-in_err-give-clause-steps g c = λ rests.
    let given = c.give.ensures.steps rests in let n = c.hold_along-hold.result.count in
    let looked = subst (λ (t : Table). c.hold_along-hold.new.steps ≤ c.args.steps.now + 18 * levels (length t.peers)) (found_is c.leases.view_is) c.hold_along-hold.ensures.steps in
    let most = peers-most c.levels_grow.ensures c.args.leases.now.found c.requires.near.tabled in
    let spent : c.give.new.steps ≤ c.args.steps.now + (18 * most_levels + run_steps c.args.ports.now (up_to n c.args.run.now)) = omega (arith, given, looked, most) in
    piece-within c.args.ports.now c.args.run.now n c.args.steps.now c.give.new.steps c.hold_along-hold.ensures.hold.some spent c.args.leases.now.found.peers c.hold_along-hold.ensures.hold.few
    (λ unparted. c.hold_along-hold.ensures.whole (subst (λ (t : Table). is_parted t.peers c.args.run.now ≡ false) (sym (found_is c.leases.view_is)) unparted))

pub returns-clause-steps : goal.returns-clause-steps
returns-clause-steps g c = λ rests.
    let given = c.give.ensures.steps rests in let n = c.hold_along-hold.result.count in
    let looked = subst (λ (t : Table). c.hold_along-hold.new.steps ≤ c.args.steps.now + 18 * levels (length t.peers)) (found_is c.leases.view_is) c.hold_along-hold.ensures.steps in
    let most = peers-most c.levels_grow.ensures c.args.leases.now.found c.requires.near.tabled in
    let spent : c.give.new.steps ≤ c.args.steps.now + (18 * most_levels + run_steps c.args.ports.now (up_to n c.args.run.now)) = omega (arith, given, looked, most) in
    piece-within c.args.ports.now c.args.run.now n c.args.steps.now c.give.new.steps c.hold_along-hold.ensures.hold.some spent c.args.leases.now.found.peers c.hold_along-hold.ensures.hold.few
    (λ unparted. c.hold_along-hold.ensures.whole (subst (λ (t : Table). is_parted t.peers c.args.run.now ≡ false) (sym (found_is c.leases.view_is)) unparted))
