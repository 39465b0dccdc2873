use Rattle.mapping_table.proofs.AgedMaps.{aged_blank, view_blank}
use Rattle.mapping_table.proofs.table.MapTable.clear.Goals as goal

pub invariant_of-self : goal.invariant_of-self
invariant_of-self c = aged_blank c.clear.new.self c.clear-2.new.self c.clear-3.new.self c.clear.ensures c.clear-3.ensures.empty c.clear-2.ensures.empty 0

pub returns : goal.returns
returns c = view_blank c.clear.new.self c.clear-2.new.self c.clear-3.new.self c.clear.ensures c.clear-3.ensures.empty
