use Rattle.std.proofs.Common.{rules}
use Rattle.pcp_io.proofs.ControlLemmas.{said-lose, said-nothing}
use Rattle.pcp_io.proofs.controls.read_order.Goals as goal

pub returns-in-Some-clause-said : goal.returns-in-Some-clause-said
returns-in-Some-clause-said c = said-lose _ _ c.in-Some.ensures.said c.in-Some.ensures.only

pub returns-in-None-clause-said : goal.returns-in-None-clause-said
returns-in-None-clause-said c = said-nothing _ (search rules) c.in-None.ensures.none
