use Rattle.pcp_config.proofs.TableLemmas.{untold_table}
use Rattle.pcp_config.proofs.ValueLemmas.{none_weaker}
use Rattle.pcp_config.proofs.tables.external_of.Goals as goal

pub returns-clause-none : goal.returns-clause-none
returns-clause-none c =
    none_weaker c.external_in.result (untold_table _ _ _ c.in_ok-as_table.ensures) c.external_in.ensures.none
