use Rattle.toml.specs.View.{table_view}
use Rattle.pcp_base.specs.AddressTexts.{IsPrefixText}
use Rattle.pcp_config.specs.TomlValues.{IsTextOf}
use Rattle.pcp_config.proofs.ValueLemmas.{none_weaker, untold_at}
use Rattle.pcp_config.proofs.values.prefix_at.Goals as goal

pub returns-clause-none : goal.returns-clause-none
returns-clause-none c =
    none_weaker c.prefix_of.result
    (untold_at (table_view c.args.table.now) c.args.key.now (IsTextOf IsPrefixText) _ c.in_ok-value_at.ensures) c.prefix_of.ensures.none
