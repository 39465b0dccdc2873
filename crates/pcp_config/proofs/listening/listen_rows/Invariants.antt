use Rattle.std.proofs.Common.{take}
use Rattle.pcp_config.specs.ConfigTables.{IsListenText}
use Rattle.pcp_config.specs.TomlValues.{IsTextOf}
use Rattle.pcp_config.proofs.ListLemmas.{AreTold}
use Rattle.pcp_config.proofs.listening.listen_rows.Given as goal

abbrev pub invariant-rows : goal.invariant-rows
invariant-rows l = AreTold (IsTextOf IsListenText) (take l.row-index l.row-items) l.listen.items
