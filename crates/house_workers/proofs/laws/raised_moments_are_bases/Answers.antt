use Rattle.house_workers.proofs.RaiseLemmas.{bases-are-moments, house-raises, raises-along}
use Rattle.house_workers.proofs.laws.raised_moments_are_bases.Goals as goal

pub returns-clause-raised : goal.returns-clause-raised
returns-clause-raised g c house shard ds r is o opens =
    raises-along g.D.LeaseDisk.tells g.D.LeaseDisk.seen g.D.LeaseDisk.moment g.D.LeaseDisk.left_since g.D.LeaseDisk.may_leave g.D.LeaseDisk.faults
    house is.works.calls r.old r.new o opens is.works.does

pub returns-clause-bases : goal.returns-clause-bases
returns-clause-bases g c = bases-are-moments

pub returns-clause-houses : goal.returns-clause-houses
returns-clause-houses g c =
    house-raises g.D.LeaseDisk.tells g.D.LeaseDisk.seen g.D.LeaseDisk.moment g.D.LeaseDisk.left_since g.D.LeaseDisk.may_leave g.D.LeaseDisk.faults
