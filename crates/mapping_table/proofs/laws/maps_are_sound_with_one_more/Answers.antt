use Rattle.mapping_table.proofs.OneMore.{sound_with}
use Rattle.mapping_table.proofs.laws.maps_are_sound_with_one_more.Goals as goal

pub returns : goal.returns
returns c = sound_with
