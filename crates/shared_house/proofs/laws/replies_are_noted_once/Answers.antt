use Rattle.shared_house.proofs.ReplyLemmas.{replies-noted}
use Rattle.shared_house.proofs.laws.replies_are_noted_once.Goals as goal

pub returns : goal.returns
returns g c =
    let d = g.D.LeaseDisk in
    λ o now batch old new replies lane later serves knows placed k reply there.
    replies-noted d.tells d.seen d.moment d.left_since d.may_leave d.faults
    c.noted_entries_stand_once.ensures o now batch old new replies lane later serves knows
    placed k reply there
