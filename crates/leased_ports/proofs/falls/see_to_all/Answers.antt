use Rattle.std.proofs.Common.{ℕ, subst, arith}
use Rattle.leased_ports.specs.Falling.{NoneDue}
use Rattle.leased_ports.proofs.FallLemmas.{all_settled}
use Rattle.leased_ports.proofs.falls.see_to_all.Goals as goal

pub loop-init : goal.loop-init
loop-init g c = record {
  on = λ low high most h. h;
  in_step = c.requires.in_step;
  begun = c.requires.begun;
  paid = omega arith;
}

pub loop-preserved : goal.loop-preserved
loop-preserved g c = record {
  on = λ low high most h. c.fall.ensures.on low high most (c.loop.invariant.on low high most h);
  in_step = c.fall.ensures.in_step;
  begun = c.fall.ensures.begun;
  paid = (let fewer = c.loop-test.ensures.fewer in let more = c.loop-test.ensures.more in let paid = c.loop.invariant.paid in omega (arith, fewer, more, paid));
}

pub returns-clause-on : goal.returns-clause-on
returns-clause-on g c low high most h = c.fall.ensures.on low high most (c.loop.invariant.on low high most h)

pub returns-clause-settled : goal.returns-clause-settled
returns-clause-settled g c = all_settled c.args.m c.args.ends.now c.fall.new.pool c.fall.new.wheel c.fall.ensures.in_step c.fall.ensures.begun c.loop-test.ensures.none

pub returns-then-settled-m-clause-settled : goal.returns-then-settled-m-clause-settled
returns-then-settled-m-clause-settled g c =
    all_settled c.args.m c.args.ends.now c.args.pool.now c.args.wheel.now c.requires.in_step c.requires.begun (subst (λ (n : ℕ). NoneDue n c.args.wheel.now) c.if-settled-m.true c.requires.late)

pub returns-then-settled-m-clause-none : goal.returns-then-settled-m-clause-none
returns-then-settled-m-clause-none g c = subst (λ (n : ℕ). NoneDue n c.args.wheel.now) c.if-settled-m.true c.requires.late
