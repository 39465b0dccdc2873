use Rattle.peer_table.proofs.SoundTables.{sound_peers}
use Rattle.peer_table.proofs.laws.sound_tables_have_sound_peers.Goals as goal

pub returns : goal.returns
returns c = sound_peers
