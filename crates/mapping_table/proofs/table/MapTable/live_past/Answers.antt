use Rattle.std.proofs.Common.{◌≤◌, count_by, sym, ap, ◌∙◌, subst, arith}
use Rattle.std.specs.BTreeMap.{values}
use Rattle.mapping_table.specs.MapLists.{is_live_map}
use Rattle.mapping_table.proofs.AgedMaps.{none-counted, none-live}
use Rattle.mapping_table.proofs.Views.{past_is}
use Rattle.mapping_table.proofs.table.MapTable.live_past.Goals as goal

pub returns-then-self-get-clause-count : goal.returns-then-self-get-clause-count
returns-then-self-get-clause-count c =
    let ls = values c.self.inside.past in let m = c.args.m in
    let late : c.self.inside.gone ≤ m = subst (λ n. c.self.inside.gone ≤ n) c.get.ensures.value c.if-self-get.true in
    sym (none-counted (is_live_map m) ls (none-live m c.self.inside.gone ls c.self.invariant.dead late)) ∙ ap (count_by (is_live_map m)) (past_is c.self.view_is)
