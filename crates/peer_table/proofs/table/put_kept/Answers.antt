use Rattle.std.proofs.Common.{sym, ap, ◌∙◌}
use Rattle.std.specs.BTreeMap.{get}
use Rattle.peer_table.specs.Kept.{key_cmp}
use Rattle.peer_table.proofs.table.put_kept.Goals as goal

pub replace-requires-clause-key : goal.replace-requires-clause-key
replace-requires-clause-key g c = ap (get key_cmp c.args.kept.now.keys) (sym c.key_of.ensures) ∙ sym c.in-Some.ensures.number

pub append-requires-clause-free : goal.append-requires-clause-free
append-requires-clause-free g c = ap (get key_cmp c.args.kept.now.keys) (sym c.key_of.ensures) ∙ sym c.in-None.ensures.number
