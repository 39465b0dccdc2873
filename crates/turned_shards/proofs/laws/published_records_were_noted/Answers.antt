use Rattle.turned_shards.proofs.LaneLemmas.{published-noted}
use Rattle.turned_shards.proofs.laws.published_records_were_noted.Goals as goal

pub returns : goal.returns
returns g c =
    let d = g.D.LeaseDisk in
    λ o s noted marks stands. published-noted d.tells d.seen d.moment d.left_since d.may_leave d.faults o s noted
    marks stands
