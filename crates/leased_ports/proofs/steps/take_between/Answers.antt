use Rattle.std.proofs.Common.{arith}
use Rattle.leased_ports.proofs.FreeLemmas.{freeing_first}
use Rattle.leased_ports.proofs.steps.take_between.Goals as goal

pub loop-next-init : goal.loop-next-init
loop-next-init g c = record {
  on = λ low high most h. h;
  late = λ seen none. none;
  from_on = omega arith;
  freeing = freeing_first c.args.from c.args.to c.args.ends.now c.args.pool.now c.args.wheel.now c.requires.in_step c.requires.from_begins c.requires.to_begins;
  paid = omega arith;
}

pub loop-next-preserved : goal.loop-next-preserved
loop-next-preserved g c = record {
  on = λ low high most h. c.take_next.ensures.on low high most (c.loop-next.invariant.on low high most h);
  late = λ seen none. c.take_next.ensures.late seen (c.loop-next.invariant.late seen none);
  from_on = (let past = c.loop-next.invariant.from_on in let less = c.in-Some.ensures.behind in omega (arith, past, less));
  freeing = c.in-Some.ensures.freeing c.args.from c.args.ends.now c.args.wheel.now c.loop-next.invariant.from_on c.loop-next.invariant.freeing;
  paid = (let paid = c.loop-next.invariant.paid in let taken = c.in-Some.ensures.taken in omega (arith, paid, taken));
}

pub returns-clause-late : goal.returns-clause-late
returns-clause-late g c seen none = c.take_next.ensures.late seen (c.loop-next.invariant.late seen none)

pub returns-clause-freeing : goal.returns-clause-freeing
returns-clause-freeing g c = c.in_default.ensures.freeing c.args.from c.args.ends.now c.args.wheel.now c.loop-next.invariant.from_on c.loop-next.invariant.freeing

pub returns-clause-steps : goal.returns-clause-steps
returns-clause-steps g c = let paid = c.loop-next.invariant.paid in let last = c.in_default.ensures.last in omega (arith, paid, last)
