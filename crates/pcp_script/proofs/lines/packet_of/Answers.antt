use Rattle.pcp_script.proofs.lines.packet_of.Goals as goal

pub returns-clause-refused : goal.returns-clause-refused
returns-clause-refused c = λ bad _. rw c.in-Some.ensures.texts (c.read_packet.ensures.refused bad)
