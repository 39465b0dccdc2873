use Rattle.std.proofs.Common.{sym}
use Rattle.leased_ports.specs.Frees.{free_at}
use Rattle.leased_ports.proofs.TimedLemmas.{insert-near, insert-free}
use Rattle.leased_ports.proofs.timed_ends.insert.Goals as goal

pub retell-requires-clause-near : goal.retell-requires-clause-near
retell-requires-clause-near c = insert-near c.args.ends.now c.args.run c.requires.free c.insert.new.self c.in_ok-insert.ensures.ok (c.requires.small, c.requires.near) c.requires.timed.near

pub retell-requires-clause-all : goal.retell-requires-clause-all
retell-requires-clause-all c = c.requires.timed.leasts.all

pub returns-clause-timed : goal.returns-clause-timed
returns-clause-timed c = record {
  apart = c.insert.ensures.runs;
  near = insert-near c.args.ends.now c.args.run c.requires.free c.insert.new.self c.in_ok-insert.ensures.ok (c.requires.small, c.requires.near) c.requires.timed.near;
  leasts = c.retell.ensures (free_at c.args.ends.now) c.requires.timed.leasts (sym c.free_at-before.ensures) (insert-free c.args.ends.now c.args.run c.requires.free c.insert.new.self c.in_ok-insert.ensures.ok);
}
