use Rattle.std.proofs.Common.{length, ap, arith}
use Rattle.ordered_index.proofs.NumberLaws.{length-inserted}
use Rattle.ordered_index.proofs.numbers.note_more.Goals as goal

pub set-requires : goal.set-requires
set-requires g c =
    let items = ap length c.requires.items in
    let more = length-inserted c.args.number c.args.each.now c.requires.anew in
    omega (arith, items, more, c.len-count.ensures)
