use Rattle.std.proofs.Common.{◌≡◌, ◌∙◌, ap, subst, count_by, arith}
use Rattle.std.specs.BTreeMap.{values}
use Rattle.std.proofs.lemmas.List.Sums.{count_by-le-length}
use Rattle.ordered_index.specs.Aged.{AreTogether}
use Rattle.peer_table.specs.PeerLists.{is_live_peer}
use Rattle.peer_table.proofs.Past.{are_together}
use Rattle.peer_table.proofs.Views.{found_is}
use Rattle.peer_table.proofs.table.PeerTable.live.Goals as goal

pub overflow_cast-result : goal.overflow_cast-result
overflow_cast-result c =
    let few = c.self.invariant.kept.sound.few in let is = c.count_live_of.ensures in
    let fewer = count_by-le-length (is_live_peer c.args.m) (values c.self.inside.kept.leases) in
    omega (arith, few, is, fewer)

pub returns : goal.returns
returns c = record {
  live =
      let all = (subst AreTogether c.self.view_is (are_together c.self.inside.kept c.self.inside.past c.self.inside.gone c.self.invariant)).counted (is_live_peer c.args.m) in
      let found : c.count_live_of.result ≡ count_by (is_live_peer c.args.m) c.args.self.now.found = c.count_live_of.ensures ∙ ap (count_by (is_live_peer c.args.m)) (found_is c.self.view_is) in
      let past = c.live_past.ensures.count in
      omega (arith, all, found, past);
}
