use Rattle.client_runs.proofs.LinkLemmas.{handed_over}
use Rattle.keep_runs.proofs.steps.send_request.Goals as goal

pub returns-in-Some : goal.returns-in-Some
returns-in-Some g c = rw c.in-Some.is (handed_over c.args.server c.in-Some.text _ _ c.hand_over.ensures)
