use Rattle.pcp_script.proofs.OneLineLemmas.{one-line}
use Rattle.pcp_script.proofs.laws.texts_stand_for_one_line.Goals as goal

pub returns : goal.returns
returns c = one-line
