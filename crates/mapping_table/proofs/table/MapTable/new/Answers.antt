use Rattle.mapping_table.proofs.AgedMaps.{aged_blank, view_blank}
use Rattle.mapping_table.proofs.table.MapTable.new.Goals as goal

pub invariant_of-result : goal.invariant_of-result
invariant_of-result c = aged_blank c.in_ok-new.field-0 c.new-2.result c.new-3.result c.in_ok-new.ensures c.new-3.ensures.empty c.new-2.ensures.empty 0

pub returns : goal.returns
returns c = view_blank c.in_ok-new.field-0 c.new-2.result c.new-3.result c.in_ok-new.ensures c.new-3.ensures.empty
