use Rattle.std.proofs.Common.{◌≤◌, ◌&&◌, find, sym, ap, ◌∙◌, subst}
use Rattle.std.specs.BTreeMap.{values}
use Rattle.pcp_base.specs.Owners.{owns}
use Rattle.mapping_table.specs.MapLists.{is_live_map}
use Rattle.mapping_table.proofs.AgedMaps.{none_found_live, none-live}
use Rattle.mapping_table.proofs.Views.{past_is}
use Rattle.mapping_table.proofs.table.MapTable.past_owner.Goals as goal

pub returns-then-self-get : goal.returns-then-self-get
returns-then-self-get c =
    let ls = values c.self.inside.past in let m = c.args.m in
    let late : c.self.inside.gone ≤ m = subst (λ n. c.self.inside.gone ≤ n) c.get.ensures.value c.if-self-get.true in
    sym (none_found_live m ls (none-live m c.self.inside.gone ls c.self.invariant.dead late) (owns c.args.protocol c.args.port))
    ∙ ap (find (λ l. is_live_map m l && owns c.args.protocol c.args.port l)) (past_is c.self.view_is)

pub returns : goal.returns
returns c = c.whole_past.ensures ∙ c.owner_in.ensures ∙ ap (find (λ l. is_live_map c.args.m l && owns c.args.protocol c.args.port l)) (past_is c.self.view_is)
