use Rattle.std.proofs.Common.{◌≡◌, Some, None, sym, ◌∙◌, arith}
use Rattle.pcp_codec.proofs.ResponseLemmas.{head-is, is-head}
use Rattle.pcp_codec.proofs.responses.read_response_head.Goals as goal

pub returns-in-Some-clause-grammar : goal.returns-in-Some-clause-grammar
returns-in-Some-clause-grammar c =
    head-is c.args.octets.now c.in-Some.head (λ i. omega (arith, c.type_inv.octets i)) (sym c.in-Some.ensures)

pub returns-in-Some-clause-only : goal.returns-in-Some-clause-only
returns-in-Some-clause-only c = λ head h.
    let e : Some c.in-Some.head ≡ Some head = c.in-Some.ensures ∙ is-head c.args.octets.now head h in
    cc

pub returns-in-None-clause-only : goal.returns-in-None-clause-only
returns-in-None-clause-only c = λ head h.
    let e : None ≡ Some head = c.in-None.ensures ∙ is-head c.args.octets.now head h in
    absurd cc
