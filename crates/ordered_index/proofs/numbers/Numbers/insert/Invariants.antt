use Rattle.std.specs.Ordering.{nat_cmp}
use Rattle.std.specs.BTreeMap.{insert_entry}
use Rattle.ordered_index.proofs.numbers.Numbers.insert.Given as goal

abbrev pub ghosts-note_more : goal.ghosts-note_more
ghosts-note_more a = record { items = insert_entry nat_cmp a.each.now a.number tt }
