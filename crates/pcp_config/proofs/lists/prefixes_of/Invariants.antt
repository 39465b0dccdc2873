use Rattle.std.proofs.Common.{take}
use Rattle.pcp_base.specs.AddressTexts.{IsPrefixText}
use Rattle.pcp_config.specs.TomlValues.{IsTextOf}
use Rattle.pcp_config.proofs.ListLemmas.{AreTold}
use Rattle.pcp_config.proofs.lists.prefixes_of.Given as goal

abbrev pub invariant-rows : goal.invariant-rows
invariant-rows l = AreTold (IsTextOf IsPrefixText) (take l.row-index l.row-items) l.prefixes.items
