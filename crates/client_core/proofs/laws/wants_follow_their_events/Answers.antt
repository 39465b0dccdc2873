use Rattle.client_core.proofs.EventLemmas.{follow-events}
use Rattle.client_core.proofs.laws.wants_follow_their_events.Goals as goal

pub returns : goal.returns
returns c = follow-events
