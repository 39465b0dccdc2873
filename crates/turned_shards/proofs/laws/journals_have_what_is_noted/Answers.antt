use Rattle.turned_shards.proofs.TurnEnds.{images-of}
use Rattle.turned_shards.proofs.laws.journals_have_what_is_noted.Goals as goal

pub returns : goal.returns
returns g c =
    let d = g.D.LeaseDisk in
    λ o s log marks stands told. images-of d.tells d.seen d.moment d.left_since d.may_leave d.faults o s
    log marks stands told
