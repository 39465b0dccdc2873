use Rattle.std.proofs.Common.{◌≤◌, ◌&&◌, sym, ap, ◌∙◌, subst}
use Rattle.std.specs.List.{list_any}
use Rattle.std.specs.BTreeMap.{values}
use Rattle.pcp_base.specs.Tables.{covers}
use Rattle.mapping_table.specs.MapLists.{is_live_map}
use Rattle.mapping_table.proofs.AgedMaps.{none_any_live, none-live}
use Rattle.mapping_table.proofs.Views.{past_is}
use Rattle.mapping_table.proofs.table.MapTable.past_covers.Goals as goal

pub returns-then-self-get : goal.returns-then-self-get
returns-then-self-get c =
    let ls = values c.self.inside.past in let m = c.args.m in let e = c.args.endpoint.now in
    let late : c.self.inside.gone ≤ m = subst (λ n. c.self.inside.gone ≤ n) c.get.ensures.value c.if-self-get.true in
    sym (none_any_live m ls (none-live m c.self.inside.gone ls c.self.invariant.dead late) (λ l. covers l e)) ∙ ap (list_any (λ l. is_live_map m l && covers l e)) (past_is c.self.view_is)
