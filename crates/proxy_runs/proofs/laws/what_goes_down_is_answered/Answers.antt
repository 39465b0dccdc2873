use Rattle.proxy_runs.proofs.AnswerLemmas.{down-answered}
use Rattle.proxy_runs.proofs.laws.what_goes_down_is_answered.Goals as goal

pub returns : goal.returns
returns c = down-answered c.replies_stand_for_pairs.ensures c.gates_sift.ensures.down
