use Rattle.std.proofs.Common.{not, ap, ◌∙◌}
use Rattle.std.specs.List.{list_any}
use Rattle.mapping_table.specs.MapLists.{is_live_map}
use Rattle.mapping_table.proofs.Dead.{some-ended}
use Rattle.mapping_table.proofs.Views.{values_is}
use Rattle.mapping_table.proofs.bare_table.BareTable.has_ended.Goals as goal

pub returns-clause-ended : goal.returns-clause-ended
returns-clause-ended g c =
    c.is_some.ensures ∙ some-ended c.args.m c.self.inside.kept c.self.invariant.counted.kept c.one_ended.result c.one_ended.ensures
    ∙ ap (list_any (λ l. not (is_live_map c.args.m l))) (values_is c.self.view_is)
