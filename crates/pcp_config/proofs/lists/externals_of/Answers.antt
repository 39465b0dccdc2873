use Rattle.std.proofs.Common.{◌≡◌, Some, sym}
use Rattle.std.proofs.lemmas.List.{take_all}
use Rattle.toml.specs.Data.{as_array}
use Rattle.toml.specs.View.{items_view, view}
use Rattle.pcp_config.specs.ConfigTables.{IsExternalTable}
use Rattle.pcp_config.specs.TomlValues.{IsTableOf}
use Rattle.pcp_config.proofs.ListLemmas.{told_all, told_more, untold_row}
use Rattle.pcp_config.proofs.lists.externals_of.Goals as goal

pub returns-in_default-external_of-clause-refused : goal.returns-in_default-external_of-clause-refused
returns-in_default-external_of-clause-refused c = λ _.
    let seen : Some (items_view c.deref-row-items.result.now) ≡ as_array (view c.args.value.now) = rw c.deref-row-items.ensures.value c.in-Some.ensures in
    untold_row (IsTableOf IsExternalTable) _ c.deref-row-items.result.now c.rows.row-index c.row-item.result seen c.rows-test.true (sym c.row-item.is)
    c.in_default-external_of.ensures.none

pub rows-preserved : goal.rows-preserved
rows-preserved c =
    rw c.in_ok-push.ensures.items
    (told_more (IsTableOf IsExternalTable) c.deref-row-items.result.now c.rows.row-index c.row-item.result c.rows.externals.items _ c.rows-test.true (sym c.row-item.is)
    c.rows.invariant c.in-Some-external_of.ensures.external)

pub returns-clause-externals : goal.returns-clause-externals
returns-clause-externals c =
    let seen : Some (items_view c.deref-row-items.result.now) ≡ as_array (view c.args.value.now) = rw c.deref-row-items.ensures.value c.in-Some.ensures in
    told_all (IsTableOf IsExternalTable) _ c.deref-row-items.result.now c.rows.row-index c.rows.externals.items seen
    (take_all c.rows.row-index c.deref-row-items.result.now c.rows-test.false) c.rows.invariant
