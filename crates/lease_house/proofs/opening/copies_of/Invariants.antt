use Rattle.std.proofs.Common.{◌≡◌, take}
use Rattle.lease_house.proofs.opening.copies_of.Given as goal

abbrev pub invariant-loop-address : goal.invariant-loop-address
invariant-loop-address l = l.copies.items ≡ take l.address-index l.listen
