use Rattle.ordered_index.proofs.FirstAndRest.{on-true, each-from_first}
use Rattle.peer_table.specs.PeerLists.{AreFellows}
use Rattle.table_rows.proofs.sound_peers.+are_all_fellows.Goals as goal

pub returns-then-is_fellow_of_all : goal.returns-then-is_fellow_of_all
returns-then-is_fellow_of_all n c = on-true c.are_all_fellows.result (each-from_first AreFellows c.args.leases.now c.first-item.result c.in-len1-up.len_at_least c.first-item.is c.if-is_fellow_of_all.ensures) c.are_all_fellows.ensures
