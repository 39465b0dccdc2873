use Rattle.external_pool.proofs.Counted.{fresh-whole, with_use-whole, use_of-with_use}
use Rattle.external_pool.proofs.laws.uses_change_in_a_run.Goals as goal

pub returns-clause-new : goal.returns-clause-new
returns-clause-new c = fresh-whole

pub returns-clause-whole : goal.returns-clause-whole
returns-clause-whole c = with_use-whole

pub returns-clause-changed : goal.returns-clause-changed
returns-clause-changed c = use_of-with_use
