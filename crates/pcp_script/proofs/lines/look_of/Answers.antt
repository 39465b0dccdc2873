use Rattle.pcp_script.proofs.LineLemmas.{IfNone-late}
use Rattle.pcp_script.proofs.lines.look_of.Goals as goal

pub returns-clause-none : goal.returns-clause-none
returns-clause-none c = rw c.in-Some.ensures.texts (IfNone-late c.read_look.result _ _ c.read_look.ensures.none)
