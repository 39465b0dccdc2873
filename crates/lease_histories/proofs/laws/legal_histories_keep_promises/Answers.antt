use Rattle.lease_histories.proofs.PromiseLemmas.{promises-one}
use Rattle.lease_histories.proofs.laws.legal_histories_keep_promises.Goals as goal

pub returns : goal.returns
returns c =
    promises-one c.states_stand.ensures c.ports_keep_one_owner.ensures c.nonces_decide.ensures c.ports_rest.ensures.rest c.epochs_disclose.ensures.bases
