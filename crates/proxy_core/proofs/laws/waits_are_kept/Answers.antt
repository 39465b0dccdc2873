use Rattle.proxy_core.proofs.WaitLemmas.{waits-kept}
use Rattle.proxy_core.proofs.laws.waits_are_kept.Goals as goal

pub returns : goal.returns
returns c = waits-kept
