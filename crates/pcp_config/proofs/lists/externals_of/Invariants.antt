use Rattle.std.proofs.Common.{take}
use Rattle.pcp_config.specs.ConfigTables.{IsExternalTable}
use Rattle.pcp_config.specs.TomlValues.{IsTableOf}
use Rattle.pcp_config.proofs.ListLemmas.{AreTold}
use Rattle.pcp_config.proofs.lists.externals_of.Given as goal

abbrev pub invariant-rows : goal.invariant-rows
invariant-rows l = AreTold (IsTableOf IsExternalTable) (take l.row-index l.row-items) l.externals.items
