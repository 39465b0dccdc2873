use Rattle.std.proofs.Common.{ap, ◌∙◌}
use Rattle.std.specs.List.{list_any}
use Rattle.peer_table.specs.PeerLists.{is_ended_peer}
use Rattle.peer_table.proofs.PeerKeeping.{one_told}
use Rattle.peer_table.proofs.Views.{found_is}
use Rattle.peer_table.proofs.table.PeerTable.has_ended.Goals as goal

pub returns-clause-ended : goal.returns-clause-ended
returns-clause-ended g c =
    c.is_some.ensures ∙ one_told c.self.inside.kept c.self.invariant.kept c.args.m c.one_ended.result c.one_ended.ensures ∙ ap (list_any (is_ended_peer c.args.m)) (found_is c.self.view_is)
