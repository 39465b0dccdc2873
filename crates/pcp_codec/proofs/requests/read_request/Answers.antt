use Rattle.std.proofs.Common.{sym, ◌∙◌, arith}
use Rattle.pcp_codec.proofs.PacketLemmas.{whole-is, is-whole}
use Rattle.pcp_codec.proofs.requests.read_request.Goals as goal

pub returns-clause-grammar : goal.returns-clause-grammar
returns-clause-grammar c = λ frame h. whole-is c.args.octets.now c.args.source.now frame (λ i. omega (arith, c.type_inv.octets i)) (sym c.first_steps.ensures ∙ h)

pub returns-clause-only : goal.returns-clause-only
returns-clause-only c = λ frame options h. c.first_steps.ensures ∙ is-whole c.args.octets.now c.args.source.now frame options h
