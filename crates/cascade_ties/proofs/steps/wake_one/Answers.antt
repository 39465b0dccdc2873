use Rattle.std.proofs.Common.{◌≡◌, ◌<◌, ℕ, sym, ap, ◌∙◌, refl, subst}
use Rattle.std.specs.BTreeMap.{values}
use Rattle.std.specs.FinMap.{len}
use Rattle.pcp_base.specs.declared.leases.Protocol.{Protocol}
use Rattle.external_pool.specs.Calls.{WakesPort}
use Rattle.cascade_ties.specs.Kept.{IsTieTable, port_of_spot, protocol_at, ties_of}
use Rattle.cascade_ties.specs.Ties.{rests_after}
use Rattle.cascade_ties.proofs.RestLemmas.{Rests, after_woken, due_small, fewer_rests, none_over, still_woken, woken_high, woken_low, woken_table}
use Rattle.cascade_ties.proofs.steps.wake_one.Goals as goal

pub returns-in_default-clause-all : goal.returns-in_default-clause-all
returns-in_default-clause-all c = subst (λ (m : Rests). rests_after c.args.now_ms m ≡ m) (sym c.in_default.ensures.unchanged) (none_over c.args.rests.now c.args.now_ms c.in_default.ensures.none)

pub port_of_spot-requires : goal.port_of_spot-requires
port_of_spot-requires c = due_small c.args.kept.now c.args.pool.now c.args.rests.now c.requires c.args.now_ms c.in-Some.at c.in-Some.ensures.next

pub returns-clause-kept : goal.returns-clause-kept
returns-clause-kept c =
    let wakes : WakesPort c.args.pool.now (protocol_at c.in-Some.at) (port_of_spot c.in-Some.at) c.wake.result c.wake.new.self =
    subst (λ (p : Protocol). WakesPort c.args.pool.now p (port_of_spot c.in-Some.at) c.wake.result c.wake.new.self) c.protocol_at.ensures
    (subst (λ (n : ℕ). WakesPort c.args.pool.now c.protocol_at.result n c.wake.result c.wake.new.self) c.port_of_spot.ensures c.wake.ensures) in
    subst (IsTieTable c.args.kept.now c.wake.new.self) (sym c.in-Some.ensures.taken)
    (woken_table c.args.kept.now c.args.pool.now c.args.rests.now c.requires c.args.now_ms c.in-Some.at c.in-Some.ensures.next c.wake.result c.wake.new.self wakes)

pub returns-clause-still : goal.returns-clause-still
returns-clause-still c =
    still_woken c.args.now_ms (ties_of c.wake.new.self c.next_over.new.rests (values c.args.kept.now.leases)) (ties_of c.args.pool.now c.args.rests.now (values c.args.kept.now.leases))
    (woken_low c.args.pool.now c.wake.new.self c.protocol_at.result c.port_of_spot.result c.wake.result c.wake.ensures)
    (woken_high c.args.pool.now c.wake.new.self c.protocol_at.result c.port_of_spot.result c.wake.result c.wake.ensures) refl
    (ap (rests_after c.args.now_ms) c.in-Some.ensures.taken ∙ after_woken c.args.rests.now c.args.now_ms c.in-Some.at c.in-Some.ensures.next)

pub returns-clause-fewer : goal.returns-clause-fewer
returns-clause-fewer c =
    subst (λ (m : Rests). len m < len c.args.rests.now) (sym c.in-Some.ensures.taken)
    (fewer_rests c.args.kept.now c.args.pool.now c.args.rests.now c.requires c.args.now_ms c.in-Some.at c.in-Some.ensures.next)
