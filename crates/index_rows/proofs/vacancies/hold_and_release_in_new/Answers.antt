use Rattle.index_rows.proofs.OnePort.{new-whole, new-free}
use Rattle.index_rows.proofs.vacancies.hold_and_release_in_new.Goals as goal

pub hold_and_release-requires-clause-whole : goal.hold_and_release-requires-clause-whole
hold_and_release-requires-clause-whole c = new-whole 1024 1063 24 _ c.in_ok-pool.ensures

pub hold_and_release-requires-clause-free : goal.hold_and_release-requires-clause-free
hold_and_release-requires-clause-free c port from to = new-free 1024 1063 24 _ c.in_ok-pool.ensures c.args.last.now.protocol port
