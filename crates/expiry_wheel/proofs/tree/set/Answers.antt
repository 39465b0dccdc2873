use Rattle.std.proofs.Common.{◌≡◌, ◌+◌, ◌/◌, length, arith}
use Rattle.expiry_wheel.specs.Blocks.{row}
use Rattle.expiry_wheel.proofs.LeastLists.{leasts_set}
use Rattle.expiry_wheel.proofs.tree.set.Goals as goal

pub write-requires-clause-leaf : goal.write-requires-clause-leaf
write-requires-clause-leaf g c = omega (arith, c.requires.nodes.places)

pub write-requires-clause-within : goal.write-requires-clause-within
write-requires-clause-within g c = omega (arith, c.requires.nodes.places, c.requires.block)

pub returns-clause-set : goal.returns-clause-set
returns-clause-set g c =
    let n = c.args.levels in
    let at : length c.args.nodes.now / 2 + c.args.block ≡ row n + c.args.block = omega (arith, c.requires.nodes.places) in
    leasts_set n c.args.nodes.now c.requires.nodes c.write.new.nodes (length c.args.nodes.now / 2 + c.args.block) c.args.block c.args.least c.write.ensures.nodes at c.requires.block c.write.ensures.own c.write.ensures.others
