use Rattle.std.proofs.Common.{sym, ◌∙◌, subst}
use Rattle.std.proofs.lemmas.Bool.{eqb-true}
use Rattle.mapping_table.specs.MapLists.{AreSoundMaps}
use Rattle.mapping_table.proofs.Views.{values_is}
use Rattle.mapping_table.proofs.bare_table.BareTable.overlapping.Goals as goal

pub overlapping_single-requires-clause-single : goal.overlapping_single-requires-clause-single
overlapping_single-requires-clause-single g c = eqb-true c.args.lease.now.count 1 (sym c.is_single.ensures ∙ c.if-is_single.true)

pub overlapping_single-requires-clause-sound : goal.overlapping_single-requires-clause-sound
overlapping_single-requires-clause-sound g c = subst AreSoundMaps (values_is c.self.view_is) c.self.invariant.counted.kept.sound
