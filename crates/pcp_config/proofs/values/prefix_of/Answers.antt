use Rattle.pcp_config.proofs.ValueLemmas.{untold_text}
use Rattle.pcp_config.proofs.values.prefix_of.Goals as goal

pub returns-in_default-clause-none : goal.returns-in_default-clause-none
returns-in_default-clause-none c =
    untold_text _ _ _ c.in_ok-as_str.ensures (rw c.as_bytes.ensures.value at c.in_default.ensures.refused)
