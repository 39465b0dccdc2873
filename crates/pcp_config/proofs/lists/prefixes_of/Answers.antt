use Rattle.std.proofs.Common.{◌≡◌, Some, sym}
use Rattle.std.proofs.lemmas.List.{take_all}
use Rattle.toml.specs.Data.{as_array}
use Rattle.toml.specs.View.{items_view, view}
use Rattle.pcp_base.specs.AddressTexts.{IsPrefixText}
use Rattle.pcp_config.specs.TomlValues.{IsTextOf}
use Rattle.pcp_config.proofs.ListLemmas.{told_all, told_more, untold_row}
use Rattle.pcp_config.proofs.lists.prefixes_of.Goals as goal

pub returns-in_default-prefix_of-clause-refused : goal.returns-in_default-prefix_of-clause-refused
returns-in_default-prefix_of-clause-refused c = λ _.
    let seen : Some (items_view c.deref-row-items.result.now) ≡ as_array (view c.args.value.now) = rw c.deref-row-items.ensures.value c.in-Some.ensures in
    untold_row (IsTextOf IsPrefixText) _ c.deref-row-items.result.now c.rows.row-index c.row-item.result seen c.rows-test.true (sym c.row-item.is)
    c.in_default-prefix_of.ensures.none

pub rows-preserved : goal.rows-preserved
rows-preserved c =
    rw c.in_ok-push.ensures.items
    (told_more (IsTextOf IsPrefixText) c.deref-row-items.result.now c.rows.row-index c.row-item.result c.rows.prefixes.items _ c.rows-test.true (sym c.row-item.is)
    c.rows.invariant c.in-Some-prefix_of.ensures.prefix)

pub returns-clause-prefixes : goal.returns-clause-prefixes
returns-clause-prefixes c =
    let seen : Some (items_view c.deref-row-items.result.now) ≡ as_array (view c.args.value.now) = rw c.deref-row-items.ensures.value c.in-Some.ensures in
    told_all (IsTextOf IsPrefixText) _ c.deref-row-items.result.now c.rows.row-index c.rows.prefixes.items seen
    (take_all c.rows.row-index c.deref-row-items.result.now c.rows-test.false) c.rows.invariant
