use Rattle.lease_histories.proofs.NextEntries.{decisions-next, faults-next, servers-next}
use Rattle.lease_histories.proofs.laws.entries_come_next.Goals as goal

pub returns-clause-decisions : goal.returns-clause-decisions
returns-clause-decisions c = decisions-next c.decisions_change_leases.ensures

pub returns-clause-servers : goal.returns-clause-servers
returns-clause-servers c = servers-next

pub returns-clause-faults : goal.returns-clause-faults
returns-clause-faults c = faults-next
