use Rattle.option_laws.proofs.RefusalLemmas.{refusals-are-errors}
use Rattle.option_laws.proofs.laws.refusals_are_errors.Goals as goal

pub returns : goal.returns
returns c = refusals-are-errors
