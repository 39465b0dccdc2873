use Rattle.std.proofs.Common.{ℕ, ◌≤◌, ◌-◌, sym, subst, arith}
use Rattle.expiry_wheel.specs.Due.{IsFirstDue}
use Rattle.port_spans.specs.Along.{spot}
use Rattle.leased_ports.proofs.SearchLemmas.{none-before, id-before, spot_le}
use Rattle.leased_ports.proofs.picks.first_due.Goals as goal

pub returns-in_default-clause-none : goal.returns-in_default-clause-none
returns-in_default-clause-none g c port expiry less told =
    c.in_default.ensures.none (spot c.args.protocol port) expiry told (subst (λ (n : ℕ). n ≤ spot c.args.protocol port) (sym c.spot-first.ensures.value) (spot_le c.args.protocol 0 port (omega arith)))

pub overflow_sub-id : goal.overflow_sub-id
overflow_sub-id g c = omega (arith, c.in-Some.ensures.first.from_on)

pub returns-then-end-port-clause-none : goal.returns-then-end-port-clause-none
returns-then-end-port-clause-none g c =
    none-before c.args.m c.args.wheel.now c.args.protocol c.args.end c.in-Some.id
    (subst (λ (n : ℕ). IsFirstDue c.args.wheel.now n c.args.m c.in-Some.id) c.spot-first.ensures.value c.in-Some.ensures.first) (omega (arith, c.if-end-port.true, c.from-port.ensures, c.spot-first.ensures.value))

pub returns-clause-due : goal.returns-clause-due
returns-clause-due g c = subst (λ (n : ℕ). IsFirstDue c.args.wheel.now n c.args.m c.in-Some.id) c.spot-first.ensures.value c.in-Some.ensures.first

pub returns-clause-before : goal.returns-clause-before
returns-clause-before g c =
    let first = subst (λ (n : ℕ). IsFirstDue c.args.wheel.now n c.args.m c.in-Some.id) c.spot-first.ensures.value c.in-Some.ensures.first in
    id-before c.args.protocol c.args.end c.in-Some.id first.from_on (omega (arith, c.if-end-port.false, c.from-port.ensures, c.spot-first.ensures.value))
