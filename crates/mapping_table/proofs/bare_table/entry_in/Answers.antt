use Rattle.std.proofs.Common.{sym}
use Rattle.mapping_table.proofs.bare_table.entry_in.Goals as goal

pub returns : goal.returns
returns c = (c.in-Some.entry.now.1, c.in-Some.ensures.held, sym c.place.ensures)
