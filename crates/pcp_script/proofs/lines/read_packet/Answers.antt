use Rattle.pcp_script.proofs.LineLemmas.{IsPacket-parts}
use Rattle.pcp_script.proofs.lines.read_packet.Goals as goal

pub returns-in_default-read-clause-refused : goal.returns-in_default-read-clause-refused
returns-in_default-read-clause-refused c = λ _ m from h. c.in_default-read.ensures.refused from.peer (IsPacket-parts _ _ _ _ _ m from h).peer
