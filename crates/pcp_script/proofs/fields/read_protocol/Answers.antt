use Rattle.std.proofs.Common.{arith}
use Rattle.pcp_script.proofs.FieldLemmas.{protocol-missed}
use Rattle.pcp_script.proofs.fields.read_protocol.Goals as goal

pub returns-clause-none : goal.returns-clause-none
returns-clause-none c =
    protocol-missed c.args.text.now c.in_ok-number.number c.of.result c.of.ensures c.in_ok-number.ensures.value.0 (omega (arith, c.in_ok-number.ensures.value.1))
