use Rattle.std.proofs.Common.{◌^◌, arith}
use Rattle.leased_ports.proofs.TimedLemmas.{none-timed}
use Rattle.leased_ports.proofs.timed_ends.TimedEnds.new.Goals as goal

pub invariant_of-result : goal.invariant_of-result
invariant_of-result c = none-timed c.in_ok-new.field-0 c.in_ok-new-2.field-0 (2 ^ 14) c.in_ok-new.ensures c.in_ok-new-2.ensures (omega arith)
