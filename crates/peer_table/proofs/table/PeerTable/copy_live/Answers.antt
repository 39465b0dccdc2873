use Rattle.peer_table.proofs.Past.{are_both}
use Rattle.peer_table.proofs.table.PeerTable.copy_live.Goals as goal

pub append_live-requires : goal.append_live-requires
append_live-requires c = are_both c.self.inside.kept c.self.inside.past c.self.inside.gone c.self.invariant
