use Rattle.house_workers.proofs.OrderLemmas.{order_along}
use Rattle.house_workers.proofs.laws.own_entries_are_in_order.Goals as goal

pub returns : goal.returns
returns g c house shard ds r is =
    order_along g.D.LeaseDisk.tells g.D.LeaseDisk.seen g.D.LeaseDisk.moment g.D.LeaseDisk.left_since g.D.LeaseDisk.may_leave g.D.LeaseDisk.faults
    house is.works.calls r.old r.new is.works.does
