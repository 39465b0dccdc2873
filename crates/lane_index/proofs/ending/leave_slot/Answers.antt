use Rattle.std.proofs.Common.{◌≡◌, ℕ, ◌-◌, length, slice_get, Some, refl, arith}
use Rattle.std.proofs.lemmas.Option.{slice_get_read}
use Rattle.lane_index.specs.declared.links.TheConstants.{PORT_SLOTS}
use Rattle.lane_index.specs.Slots.{stands_in}
use Rattle.lane_index.proofs.ChainLemmas.{chained-outside}
use Rattle.lane_index.proofs.ending.leave_slot.Goals as goal

pub returns-in_default : goal.returns-in_default
returns-in_default c = λ y out.
    let place : ℕ = c.args.number - 1 in
    let x = c.index-cells-place.result in
    let at : slice_get c.args.cells.now place ≡ Some x = slice_get_read c.args.cells.now (length c.args.cells.now) place x refl (omega (arith, c.requires.some, c.requires.inside)) (rw c.from-place.ensures at c.index-cells-place.is) in
    chained-outside PORT_SLOTS stands_in c.args.cells.now c.args.peers.now c.requires.standing place x y at c.in_default.ensures.none out
