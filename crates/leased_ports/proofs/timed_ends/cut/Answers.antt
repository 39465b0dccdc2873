use Rattle.std.proofs.Common.{sym}
use Rattle.leased_ports.specs.Frees.{free_at}
use Rattle.leased_ports.proofs.TimedLemmas.{cut-near, cut-free}
use Rattle.leased_ports.proofs.timed_ends.cut.Goals as goal

pub retell-requires-clause-near : goal.retell-requires-clause-near
retell-requires-clause-near c = cut-near c.args.ends.now c.args.at c.cut.new.self c.in_ok-cut.ensures.ok c.requires.near

pub retell-requires-clause-all : goal.retell-requires-clause-all
retell-requires-clause-all c = c.requires.leasts.all

pub returns-clause-timed : goal.returns-clause-timed
returns-clause-timed c = record {
  apart = c.cut.ensures.runs;
  near = cut-near c.args.ends.now c.args.at c.cut.new.self c.in_ok-cut.ensures.ok c.requires.near;
  leasts = c.retell.ensures (free_at c.args.ends.now) c.requires.leasts (sym c.free_at-before.ensures) (cut-free c.args.ends.now c.args.at c.cut.new.self c.in_ok-cut.ensures.ok);
}
