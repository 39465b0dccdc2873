use Rattle.leased_ports.proofs.RecordLemmas.{recorded-last, nothing-kept, ports-recorded, ports-anew}
use Rattle.leased_ports.proofs.laws.records_tell_last_ends.Goals as goal

pub returns-clause-recorded : goal.returns-clause-recorded
returns-clause-recorded c = recorded-last

pub returns-clause-forgotten : goal.returns-clause-forgotten
returns-clause-forgotten c = nothing-kept

pub returns-clause-ports : goal.returns-clause-ports
returns-clause-ports c = ports-recorded

pub returns-clause-anew : goal.returns-clause-anew
returns-clause-anew c = ports-anew
