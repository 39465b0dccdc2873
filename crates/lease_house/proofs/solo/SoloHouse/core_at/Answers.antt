use Rattle.lease_house.proofs.LookLemmas.{book-there, state-there}
use Rattle.lease_house.proofs.solo.SoloHouse.core_at.Goals as goal

pub returns-clause-state : goal.returns-clause-state
returns-clause-state g c =
    let d = g.D.LeaseDisk in
    let inside = c.self.inside in
    let b = c.index.result.now in
    let there = book-there d.tells d.seen d.may_leave c.args.self.now inside.config inside.books.items inside.spare.items c.args.shard b c.self.view_is c.self.invariant.0 c.requires.shard c.index.ensures in
    state-there c.args.self.now c.args.shard b c.core.result.now.kept.state there (c.core.ensures.state (c.requires.settled b there))

pub returns-clause-reached : goal.returns-clause-reached
returns-clause-reached g c =
    let d = g.D.LeaseDisk in
    let inside = c.self.inside in
    let b = c.index.result.now in
    let there = book-there d.tells d.seen d.may_leave c.args.self.now inside.config inside.books.items inside.spare.items c.args.shard b c.self.view_is c.self.invariant.0 c.requires.shard c.index.ensures in
    c.core.ensures.reached (c.requires.settled b there)
