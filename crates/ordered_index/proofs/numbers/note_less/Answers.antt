use Rattle.std.proofs.Common.{length, ap, arith}
use Rattle.ordered_index.proofs.NumberLaws.{length-removed}
use Rattle.ordered_index.proofs.numbers.note_less.Goals as goal

pub set-requires : goal.set-requires
set-requires g c =
    let items = ap length c.requires.items in
    let less = length-removed c.args.number c.args.each.now c.requires.there in
    omega (arith, items, less, c.len-count.ensures)
