use Rattle.std.proofs.Common.{length}
use Rattle.leased_ports.proofs.TimedLemmas.{none-timed}
use Rattle.leased_ports.proofs.timed_ends.TimedEnds.clear.Goals as goal

pub invariant_of-self : goal.invariant_of-self
invariant_of-self c = none-timed c.clear.new.self c.clear-2.new.self (length c.self.inside.frees) c.clear.ensures c.clear-2.ensures c.self.invariant.leasts.all
