use Rattle.std.proofs.Common.{refl}
use Rattle.shared_rows.proofs.PassLemmas.{first-lane}
use Rattle.shared_rows.proofs.lanes.run.Goals as goal

pub learns-learnt-requires-clause-first : goal.learns-learnt-requires-clause-first
learns-learnt-requires-clause-first g c =
    let begun = c.in-Ok.ensures.begun in
    first-lane c.in-Ok.begun.house _ begun.books c.in-Ok.begun.house.turns c.in-Ok.begun.passes.items c.in-Ok.begun.lanes.items refl begun.begins.each
