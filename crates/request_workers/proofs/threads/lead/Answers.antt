use Rattle.request_workers.proofs.LeadLemmas.{leads, leads_nobody}
use Rattle.request_workers.proofs.threads.lead.Goals as goal

pub returns-then-not-are_here : goal.returns-then-not-are_here
returns-then-not-are_here g c = leads_nobody _ _ _ _ _

pub returns : goal.returns
returns g c = rw c.led_as.ensures (leads _ _ _ _ _ _ c.dispatch-read.result c.dispatch-read.ensures)
