use Rattle.std.proofs.Common.{refl}
use Rattle.pcp_options.proofs.options.read_options.Goals as goal

pub returns-clause-passed : goal.returns-clause-passed
returns-clause-passed c = λ others. absurd (others c.in-Err.code refl)
