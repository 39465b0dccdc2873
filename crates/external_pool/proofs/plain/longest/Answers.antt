use Rattle.std.proofs.Common.{◌-◌, arith}
use Rattle.external_pool.proofs.KeptLemmas.{at_most}
use Rattle.external_pool.proofs.plain.longest.Goals as goal

pub returns-in-Some : goal.returns-in-Some
returns-in-Some c = record {
  some = omega (arith, c.loop-less-test.true);
  within = omega arith;
  vacant = c.in-Some.ensures.fits;
  least = c.in-Some.ensures.least;
  greatest = λ n few run. at_most n (c.args.room - c.loop-less.less) (λ more. c.loop-less.invariant n (omega (arith, more, c.loop-less-test.true)) few run);
}

pub returns : goal.returns
returns c n some few run = c.loop-less.invariant n (omega (arith, some, c.loop-less-test.false)) few run
