use Rattle.std.proofs.Common.{false, ◌+◌}
use Rattle.std.specs.Vec.{with_items}
use Rattle.port_runs.proofs.ShownFlags.{takes_run, takes_none, marked_items, count_items}
use Rattle.port_runs.proofs.plain.PlainRuns.take.Goals as goal

pub returns-then-run_at-n : goal.returns-then-run_at-n
returns-then-run_at-n c =
    let a = c.self.inside in
    let count = count_items c.deref.result.now a.free.items c.args.start c.args.n c.run_at.result c.deref.ensures.value c.run_at.ensures in
    takes_none a.low a.high a.free.items c.self.invariant c.args.self.now c.self.view_is c.args.start c.args.n c.requires.low c.requires.high c.run_at.result c.if-run_at-n.true (count.stops c.if-run_at-n.true)

pub returns : goal.returns
returns c =
    let a = c.self.inside in
    let count = count_items c.deref.result.now a.free.items c.args.start c.args.n c.run_at.result c.deref.ensures.value c.run_at.ensures in
    takes_run a.low a.high a.free.items c.self.invariant c.args.self.now c.self.view_is c.args.start c.args.n c.requires.low c.requires.high c.run_at.result c.if-run_at-n.false count.free (with_items a.free c.mark.new.flags).items (marked_items a.free c.deref_mut.result.now c.mark.new.flags c.args.start (c.args.start + c.args.n) false c.deref_mut.ensures.value c.mark.ensures)
