use Rattle.std.proofs.Common.{arith}
use Rattle.pcp_base.proofs.SlotLemmas.{IsPadded-push}
use Rattle.pcp_base.proofs.leases.Filters.push.Goals as goal

-- there is room, and the next slot is no longer blank
pub invariant_of-self : goal.invariant_of-self
invariant_of-self c = IsPadded-push c.self.inside c.args.filter c.self.invariant (omega arith)
