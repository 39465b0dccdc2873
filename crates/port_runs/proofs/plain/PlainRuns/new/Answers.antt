use Rattle.std.proofs.Common.{true, ◌+◌, ◌∙◌, sym}
use Rattle.port_runs.proofs.ShownFlags.{alone_marked, untaken_shown, marked_items}
use Rattle.port_runs.proofs.plain.PlainRuns.new.Goals as goal

pub returns : goal.returns
returns c =
    let v = c.in_ok-free.free in
    let alone = alone_marked c.args.low (c.args.high + 1) v.items _ (sym v.ok.0 ∙ c.in_ok-free.ensures.all) c.in_ok-free.ensures.clear (marked_items v c.deref_mut.result.now c.mark.new.flags c.args.low (c.args.high + 1) true c.deref_mut.ensures.value c.mark.ensures) in
    untaken_shown c.args.low c.args.high _ c.requires.some c.requires.ordered c.ranges.high.fits alone
