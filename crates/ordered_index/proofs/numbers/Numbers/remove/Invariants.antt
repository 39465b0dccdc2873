use Rattle.std.specs.Map.{remove_entry}
use Rattle.std.specs.Ordering.{nat_cmp}
use Rattle.std.specs.BTreeMap.{is_at}
use Rattle.ordered_index.proofs.numbers.Numbers.remove.Given as goal

abbrev pub ghosts-note_less : goal.ghosts-note_less
ghosts-note_less a = record { items = remove_entry (is_at (nat_cmp a.number)) a.each.now }
