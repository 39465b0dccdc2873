use Rattle.std.proofs.Common.{arith}
use Rattle.pcp_script.proofs.SevenTexts.{seven-texts}
use Rattle.pcp_script.proofs.lines.look_fields.Goals as goal

pub returns-clause-texts : goal.returns-clause-texts
returns-clause-texts c = seven-texts (λ f. f.now) _ c.args.fields.now (omega arith)
