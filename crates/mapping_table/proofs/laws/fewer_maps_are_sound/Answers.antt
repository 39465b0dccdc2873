use Rattle.mapping_table.proofs.Sounds.{AreSoundMaps-filter}
use Rattle.mapping_table.proofs.laws.fewer_maps_are_sound.Goals as goal

pub returns : goal.returns
returns c = AreSoundMaps-filter
