use Rattle.std.proofs.Common.{codes}
use Rattle.toml.specs.View.{table_view}
use Rattle.pcp_base.specs.declared.configs.Orders.TheVariants.{Both}
use Rattle.pcp_config.specs.ConfigTables.{IsOrdersText}
use Rattle.pcp_config.specs.TomlValues.{IsTextOf}
use Rattle.pcp_config.proofs.ConfigLemmas.{untold_or}
use Rattle.pcp_config.proofs.ValueLemmas.{none_weaker}
use Rattle.pcp_config.proofs.listening.orders_in.Goals as goal

pub returns-in-Some-clause-none : goal.returns-in-Some-clause-none
returns-in-Some-clause-none c =
    none_weaker c.orders_of.result
    (untold_or (table_view c.args.table.now) (codes "orders") Both (IsTextOf IsOrdersText) _ c.in-Some.ensures) c.orders_of.ensures.none
