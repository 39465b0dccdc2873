use Rattle.pcp_io.proofs.ControlLemmas.{lost-only, lost-none}
use Rattle.pcp_io.proofs.controls.read_lost.Goals as goal

pub returns-in-Ok-clause-only : goal.returns-in-Ok-clause-only
returns-in-Ok-clause-only c = lost-only _ _ _ c.in-Some.ensures.some c.in-Ok.ensures.only

pub returns-in-Err-clause-none : goal.returns-in-Err-clause-none
returns-in-Err-clause-none c = lost-none _ _ c.in-Some.ensures.some c.in-Err.ensures.refused
