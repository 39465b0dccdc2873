use Rattle.mapping_table.proofs.SoundTables.{sound_maps}
use Rattle.mapping_table.proofs.laws.sound_tables_have_sound_maps.Goals as goal

pub returns : goal.returns
returns c = sound_maps
