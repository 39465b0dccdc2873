use Rattle.pcp_base.proofs.ColonLemmas.{IsColonHex-utf8}
use Rattle.pcp_base.proofs.addresses.Address.read_colon.Goals as goal

pub returns-in_default-clause-none : goal.returns-in_default-clause-none
returns-in_default-clause-none c = λ a h. c.in_default.ensures.cases.0 (IsColonHex-utf8 c.args.text.now h.0 h.1)

pub returns-in_default-parse-clause-none : goal.returns-in_default-parse-clause-none
returns-in_default-parse-clause-none c = λ a h.
    c.in_default-parse.ensures.value (record { segments = h.0 }) (rw c.in-Ok.ensures.cases.0 h.1)
