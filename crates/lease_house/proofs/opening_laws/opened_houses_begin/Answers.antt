use Rattle.lease_house.proofs.BegunLemmas.{opened_houses_begin}
use Rattle.lease_house.proofs.opening_laws.opened_houses_begin.Goals as goal

pub returns : goal.returns
returns g c =
    let d = g.D.LeaseDisk in
    opened_houses_begin d.tells d.seen d.moment d.left_since d.may_leave d.faults
