use Rattle.std.proofs.Common.{arith}
use Rattle.pcp_io.proofs.KnownOctets.{Writes-within, Writes-after}
use Rattle.pcp_io.proofs.sinks.write_all.Goals as goal

pub loop-taken-preserved : goal.loop-taken-preserved
loop-taken-preserved g c =
    let writes = c.in_ok-taken.ensures.writes in record {
      within = Writes-within _ _ _ _ _ c.loop-taken.invariant.within writes;
      front = Writes-after _ _ _ _ _ _ c.loop-taken.invariant.front writes;
      later = omega (arith, c.loop-taken.invariant.later, c.in_ok-taken.ensures.cause.later);
    }
