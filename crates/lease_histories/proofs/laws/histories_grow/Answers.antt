use Rattle.lease_histories.proofs.Growing.{last-greatest, next-legal, nothing-legal, prefix-legal}
use Rattle.lease_histories.proofs.laws.histories_grow.Goals as goal

pub returns-clause-nothing : goal.returns-clause-nothing
returns-clause-nothing c = nothing-legal

pub returns-clause-prefixes : goal.returns-clause-prefixes
returns-clause-prefixes c = prefix-legal

pub returns-clause-next : goal.returns-clause-next
returns-clause-next c = next-legal

pub returns-clause-greatest : goal.returns-clause-greatest
returns-clause-greatest c = last-greatest
