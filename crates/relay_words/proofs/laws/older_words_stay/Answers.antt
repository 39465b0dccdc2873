use Rattle.relay_words.proofs.OlderLemmas.{older_cascade, older_proxy}
use Rattle.relay_words.proofs.laws.older_words_stay.Goals as goal

pub returns-clause-proxy : goal.returns-clause-proxy
returns-clause-proxy c = older_proxy

pub returns-clause-cascade : goal.returns-clause-cascade
returns-clause-cascade c = older_cascade
