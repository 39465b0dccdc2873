use Rattle.peer_table.proofs.Past.{are_both}
use Rattle.peer_table.proofs.table.PeerTable.add_records.Goals as goal

pub append_records-requires-clause-both : goal.append_records-requires-clause-both
append_records-requires-clause-both g c = are_both c.self.inside.kept c.self.inside.past c.self.inside.gone c.self.invariant
