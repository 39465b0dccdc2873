use Rattle.proxy_cascade.proofs.RunLemmas.{ties-differ}
use Rattle.proxy_cascade.proofs.laws.ties_always_differ.Goals as goal

pub returns : goal.returns
returns c = ties-differ
