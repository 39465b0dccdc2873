use Rattle.peer_table.proofs.OneMore.{sound_with}
use Rattle.peer_table.proofs.laws.peers_are_sound_with_one_more.Goals as goal

pub returns : goal.returns
returns c = sound_with
