use Rattle.std.proofs.Common.{arith}
use Rattle.leased_ports.proofs.timed_ends.first_in.Goals as goal

pub returns-then-free_at-m-clause-found : goal.returns-then-free_at-m-clause-found
returns-then-free_at-m-clause-found g c =
    let l = c.loop-at in
    record {
      from_on = l.auto.at;
      due = omega (arith, c.free_at.ensures, c.if-free_at-m.true);
      first = l.invariant.later;
    }
