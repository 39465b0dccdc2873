use Rattle.proxy_cascade.proofs.RunLemmas.{sent-is-told}
use Rattle.proxy_cascade.proofs.laws.sent_is_told.Goals as goal

pub returns : goal.returns
returns c = sent-is-told
