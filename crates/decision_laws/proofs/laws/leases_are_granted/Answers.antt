use Rattle.decision_laws.proofs.GrantLemmas.{maps-are-granted, peers-are-granted}
use Rattle.decision_laws.proofs.laws.leases_are_granted.Goals as goal

pub returns : goal.returns
returns c = record { maps = maps-are-granted; peers = peers-are-granted }
