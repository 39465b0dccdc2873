use Rattle.std.proofs.Common.{true, ◌+◌}
use Rattle.std.specs.Vec.{with_items}
use Rattle.port_runs.proofs.ShownFlags.{marked_items, gives_run}
use Rattle.port_runs.proofs.plain.PlainRuns.give.Goals as goal

pub returns : goal.returns
returns c =
    let a = c.self.inside in
    gives_run a.low a.high a.free.items c.self.invariant c.args.self.now c.self.view_is c.args.start c.args.n c.requires.low c.requires.high (with_items a.free c.mark.new.flags).items (marked_items a.free c.deref_mut.result.now c.mark.new.flags c.args.start (c.args.start + c.args.n) true c.deref_mut.ensures.value c.mark.ensures)
