use Rattle.ordered_index.proofs.FirstAndRest.{on-true, each-from_first}
use Rattle.mapping_table.specs.MapLists.{AreSeparate}
use Rattle.table_rows.proofs.sound_maps.+are_all_separate.Goals as goal

pub returns-then-is_separate_from_all : goal.returns-then-is_separate_from_all
returns-then-is_separate_from_all n c = on-true c.are_all_separate.result (each-from_first AreSeparate c.args.leases.now c.first-item.result c.in-len1-up.len_at_least c.first-item.is c.if-is_separate_from_all.ensures) c.are_all_separate.ensures
