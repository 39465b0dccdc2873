use Rattle.std.proofs.Common.{◌-◌}
use Rattle.leased_ports.proofs.CopyLemmas.{IsWritten}
use Rattle.leased_ports.proofs.listing.copy.Given as goal

abbrev pub invariant-loop-run : goal.invariant-loop-run
invariant-loop-run l = IsWritten l.m l.ends l.from l.all.items

abbrev pub decreases-loop-run : goal.decreases-loop-run
decreases-loop-run l = 131072 - l.from
