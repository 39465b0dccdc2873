use Rattle.std.proofs.Common.{refl}
use Rattle.shared_rows.proofs.PassLemmas.{first-lane}
use Rattle.shared_rows.proofs.held.run.Goals as goal

pub look_at_first-answered-requires-clause-first : goal.look_at_first-answered-requires-clause-first
look_at_first-answered-requires-clause-first g c κs within =
    let begun = c.in-Ok.ensures.begun in
    first-lane c.in-Ok.begun.house _ begun.books c.in-Ok.begun.house.turns c.in-Ok.begun.passes.items c.in-Ok.begun.lanes.items refl begun.begins.each
