use Rattle.std.proofs.Common.{◌≤◌, ◌∙◌, ap, count_by, arith}
use Rattle.std.specs.BTreeMap.{values}
use Rattle.peer_table.specs.PeerLists.{is_live_peer}
use Rattle.peer_table.proofs.Past.{none_counted}
use Rattle.peer_table.proofs.Views.{past_is}
use Rattle.peer_table.proofs.table.PeerTable.live_past.Goals as goal

pub returns-then-self-get-clause-count : goal.returns-then-self-get-clause-count
returns-then-self-get-clause-count c =
    let over : c.self.inside.gone ≤ c.args.m = omega (arith, c.if-self-get.true, c.get.ensures.value) in
    none_counted c.self.inside.gone c.args.m over (values c.self.inside.past) c.self.invariant.dead ∙ ap (count_by (is_live_peer c.args.m)) (past_is c.self.view_is)
