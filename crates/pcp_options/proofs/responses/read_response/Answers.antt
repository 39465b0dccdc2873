use Rattle.std.proofs.Common.{arith}
use Rattle.pcp_options.proofs.GrammarLemmas.{response-found, response-only}
use Rattle.pcp_options.proofs.responses.read_response.Goals as goal

pub returns-clause-grammar : goal.returns-clause-grammar
returns-clause-grammar c = λ r h. response-found c.args.octets.now r (λ i. omega (arith, c.type_inv.octets i)) h

pub returns-clause-only : goal.returns-clause-only
returns-clause-only c = λ r h. response-only c.args.octets.now r h
