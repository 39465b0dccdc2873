use Rattle.index_rows.proofs.OnePort.{new-whole, new-free}
use Rattle.index_rows.proofs.vacancies.rest_and_wake_in_new.Goals as goal

pub rest_and_wake-requires-clause-whole : goal.rest_and_wake-requires-clause-whole
rest_and_wake-requires-clause-whole c = new-whole 1024 1063 24 _ c.in_ok-pool.ensures

pub rest_and_wake-requires-clause-free : goal.rest_and_wake-requires-clause-free
rest_and_wake-requires-clause-free c port from to = new-free 1024 1063 24 _ c.in_ok-pool.ensures c.args.last.now.protocol port
