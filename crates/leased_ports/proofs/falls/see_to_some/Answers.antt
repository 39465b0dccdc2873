use Rattle.std.proofs.Common.{ℕ, subst, arith}
use Rattle.leased_ports.specs.Falling.{NoneDue}
use Rattle.leased_ports.proofs.falls.see_to_some.Goals as goal

pub loop-left-init : goal.loop-left-init
loop-left-init g c = record {
  on = λ low high most h. h;
  in_step = c.requires.in_step;
  begun = c.requires.begun;
  late = c.requires.late;
  done = omega arith;
  paid = omega arith;
}

pub loop-left-preserved : goal.loop-left-preserved
loop-left-preserved g c = record {
  on = λ low high most h. c.fall.ensures.on low high most (c.loop-left.invariant.on low high most h);
  in_step = c.fall.ensures.in_step;
  begun = c.fall.ensures.begun;
  late = c.fall.ensures.late c.args.settled c.requires.later c.loop-left.invariant.late;
  done = (let fewer = c.if-not-fall.ensures.fewer in let done = c.loop-left.invariant.done in omega (arith, fewer, done));
  paid = (let more = c.if-not-fall.ensures.more in let paid = c.loop-left.invariant.paid in omega (arith, more, paid));
}

pub returns-clause-all : goal.returns-clause-all
returns-clause-all g c few = let done = c.loop-left.invariant.done in absurd (omega (arith, few, done, c.loop-left-test.false))

pub returns-then-not-fall-clause-few : goal.returns-then-not-fall-clause-few
returns-then-not-fall-clause-few g c =
    let done = c.loop-left.invariant.done in let paid = c.loop-left.invariant.paid in let last = c.if-not-fall.ensures.last in
    omega (arith, done, paid, last)

pub returns-clause-few : goal.returns-clause-few
returns-clause-few g c = let done = c.loop-left.invariant.done in let paid = c.loop-left.invariant.paid in omega (arith, done, paid, c.loop-left-test.false)

pub returns-then-settled-m-clause-late : goal.returns-then-settled-m-clause-late
returns-then-settled-m-clause-late g c = subst (λ (n : ℕ). NoneDue n c.args.wheel.now) c.if-settled-m.true c.requires.late
