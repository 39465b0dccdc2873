use Rattle.lease_house.proofs.LookLemmas.{book-there, last-there}
use Rattle.lease_house.proofs.solo.SoloHouse.last.Goals as goal

pub returns : goal.returns
returns g c =
    let d = g.D.LeaseDisk in
    let inside = c.self.inside in
    let b = c.index.result.now in
    let there = book-there d.tells d.seen d.may_leave c.args.self.now inside.config inside.books.items inside.spare.items c.args.shard b c.self.view_is c.self.invariant.0 c.requires c.index.ensures in
    last-there c.args.self.now c.args.shard c.last.result b there c.last.ensures
