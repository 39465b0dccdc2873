use Rattle.lease_histories.proofs.PromiseLemmas.{promises-each}
use Rattle.lease_histories.proofs.laws.histories_keep_promises.Goals as goal

pub returns : goal.returns
returns c = promises-each c.legal_histories_keep_promises.ensures
