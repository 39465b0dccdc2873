use Rattle.std.proofs.Common.{◌≡◌, sym, ◌∙◌, arith}
use Rattle.std.proofs.lemmas.Fmt.{decimal_injective}
use Rattle.serve_commands.proofs.commands.read_port.Goals as goal

pub returns-in_default-clause-none : goal.returns-in_default-clause-none
returns-in_default-clause-none c = λ port is.
    let found = c.in-Some.ensures.value in
    let same : c.in-Some.port ≡ port = decimal_injective _ port
    (omega (arith, found.1, c.requires)) (omega (arith, is.2, c.requires))
    (sym found.0 ∙ is.0) in
    absurd (omega (arith, same, is.1, c.if-port-ge1.false))
