use Rattle.lease_house.proofs.HandingBack.{pairs_are_handed_back}
use Rattle.lease_house.proofs.opening_laws.pairs_are_handed_back.Goals as goal

pub returns : goal.returns
returns g c =
    let d = g.D.LeaseDisk in
    pairs_are_handed_back d.tells d.seen d.moment d.left_since d.may_leave d.faults
