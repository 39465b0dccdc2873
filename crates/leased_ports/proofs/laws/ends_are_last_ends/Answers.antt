use Rattle.leased_ports.proofs.CameLemmas.{ends-last}
use Rattle.leased_ports.proofs.ToldLemmas.{ends-told}
use Rattle.leased_ports.proofs.laws.ends_are_last_ends.Goals as goal

pub returns-clause-last : goal.returns-clause-last
returns-clause-last c = λ s protocol port reached. ends-last s reached protocol port

pub returns-clause-told : goal.returns-clause-told
returns-clause-told c = λ v s reached ports. ends-told v s reached ports
