use Rattle.std.proofs.Common.{codes}
use Rattle.toml.specs.View.{table_view}
use Rattle.pcp_config.specs.ConfigTables.{IsExternalText}
use Rattle.pcp_config.specs.TomlValues.{IsTextOf}
use Rattle.pcp_config.proofs.ValueLemmas.{untold_at}
use Rattle.pcp_config.proofs.tables.subscriber_in.Goals as goal

pub returns-in_err-prefix-clause-none : goal.returns-in_err-prefix-clause-none
returns-in_err-prefix-clause-none c =
    rw c.from_residual.ensures (λ s h. c.in_err-prefix.ensures.none s.prefix h.prefix)

pub returns-in_err-external-clause-none : goal.returns-in_err-external-clause-none
returns-in_err-external-clause-none c =
    rw c.from_residual-in_err-external.ensures
    (λ s h. untold_at (table_view c.args.table.now) (codes "external") (IsTextOf (IsExternalText c.args.externals.now)) _
    c.in_ok-value_at.ensures c.in_err-external.ensures.none s.external h.external)
