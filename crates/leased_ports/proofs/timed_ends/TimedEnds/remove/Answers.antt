use Rattle.std.proofs.Common.{sym}
use Rattle.leased_ports.specs.Frees.{free_at}
use Rattle.leased_ports.proofs.TimedLemmas.{remove-near, remove-free, remove-now}
use Rattle.leased_ports.proofs.timed_ends.TimedEnds.remove.Goals as goal

pub retell-requires-clause-near : goal.retell-requires-clause-near
retell-requires-clause-near c = remove-near c.self.inside.ends c.args.first c.remove.new.self c.remove.ensures.ok c.self.invariant.near

pub retell-requires-clause-all : goal.retell-requires-clause-all
retell-requires-clause-all c = c.self.invariant.leasts.all

pub retell-requires-clause-free : goal.retell-requires-clause-free
retell-requires-clause-free c = sym (remove-now c.self.inside.ends c.args.first c.remove.new.self c.remove.ensures.ok)

pub invariant_of-self : goal.invariant_of-self
invariant_of-self c = record {
  apart = c.remove.ensures.runs;
  near = remove-near c.self.inside.ends c.args.first c.remove.new.self c.remove.ensures.ok c.self.invariant.near;
  leasts = c.retell.ensures (free_at c.self.inside.ends) c.self.invariant.leasts (sym c.free_at-before.ensures) (remove-free c.self.inside.ends c.args.first c.remove.new.self c.remove.ensures.ok);
}
