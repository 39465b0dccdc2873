use Rattle.peer_table.proofs.Sounds.{AreSoundPeers-filter}
use Rattle.peer_table.proofs.laws.fewer_peers_are_sound.Goals as goal

pub returns : goal.returns
returns c = AreSoundPeers-filter
