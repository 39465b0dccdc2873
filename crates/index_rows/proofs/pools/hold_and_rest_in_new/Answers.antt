use Rattle.index_rows.proofs.OnePort.{new-whole, new-may_hold}
use Rattle.index_rows.proofs.pools.hold_and_rest_in_new.Goals as goal

pub hold_and_rest-requires-clause-whole : goal.hold_and_rest-requires-clause-whole
hold_and_rest-requires-clause-whole g c = new-whole c.args.low c.args.high 24 _ c.in_ok-pool.ensures

pub hold_and_rest-requires-clause-may : goal.hold_and_rest-requires-clause-may
hold_and_rest-requires-clause-may g c = new-may_hold c.args.low c.args.high 24 _ c.in_ok-pool.ensures c.args.last.now.protocol c.args.low c.requires.ports
