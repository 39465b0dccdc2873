use Rattle.option_laws.proofs.GrantReads.{map-grants-read, peer-grants-read}
use Rattle.option_laws.proofs.laws.grants_are_read.Goals as goal

pub returns-clause-maps : goal.returns-clause-maps
returns-clause-maps c = map-grants-read

pub returns-clause-peers : goal.returns-clause-peers
returns-clause-peers c = peer-grants-read
