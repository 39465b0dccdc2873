use Rattle.std.proofs.Common.{◌≤◌, subst}
use Rattle.expiry_wheel.proofs.blocks.first_in.Goals as goal

pub returns-then-look-m-clause-found : goal.returns-then-look-m-clause-found
returns-then-look-m-clause-found g c =
    let l = c.loop-id in
    record {
      from_on = l.auto.id;
      due = subst (λ v. v ≤ c.args.m) c.look.ensures.value c.if-look-m.true;
      first = l.invariant.later;
    }
