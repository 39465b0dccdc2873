use Rattle.std.proofs.Common.{not, subst, sym}
use Rattle.pcp_base.specs.Tables.{is_map_of}
use Rattle.mapping_table.specs.MapLists.{AreSoundMaps}
use Rattle.mapping_table.proofs.Sounds.{AreSoundMaps-filter}
use Rattle.mapping_table.proofs.plain.PlainMapTable.remove.Goals as goal

pub invariant_of-self : goal.invariant_of-self
invariant_of-self g c = subst AreSoundMaps (sym c.drop_from.ensures) (AreSoundMaps-filter (λ l. not (is_map_of c.args.key.now l)) _ c.self.invariant)
