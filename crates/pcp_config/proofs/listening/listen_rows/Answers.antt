use Rattle.std.proofs.Common.{◌≡◌, Err, Some, sym, ap}
use Rattle.std.proofs.lemmas.List.{take_all}
use Rattle.toml.specs.Data.{as_array}
use Rattle.toml.specs.View.{items_view, view}
use Rattle.pcp_config.specs.ConfigTables.{IsListenText}
use Rattle.pcp_config.specs.TomlValues.{IsTextOf}
use Rattle.pcp_config.proofs.ListLemmas.{told_all, told_more, untold_row}
use Rattle.pcp_config.proofs.listening.listen_rows.Goals as goal

pub returns-in_err-address-clause-refused : goal.returns-in_err-address-clause-refused
returns-in_err-address-clause-refused c = λ bad.
    let seen : Some (items_view c.deref-row-items.result.now) ≡ as_array (view c.args.value.now) = rw c.deref-row-items.ensures.value c.in-Some.ensures in
    let same = (rw bad at c.from_residual.ensures).1 in
    untold_row (IsTextOf IsListenText) _ c.deref-row-items.result.now c.rows.row-index c.row-item.result seen c.rows-test.true (sym c.row-item.is)
    (c.in_err-address.ensures.refused (ap Err (sym same)))

pub rows-preserved : goal.rows-preserved
rows-preserved c =
    rw c.in_ok-push.ensures.items
    (told_more (IsTextOf IsListenText) c.deref-row-items.result.now c.rows.row-index c.row-item.result c.rows.listen.items _ c.rows-test.true (sym c.row-item.is)
    c.rows.invariant c.in_ok-address.ensures.address)

pub returns-clause-listen : goal.returns-clause-listen
returns-clause-listen c =
    let seen : Some (items_view c.deref-row-items.result.now) ≡ as_array (view c.args.value.now) = rw c.deref-row-items.ensures.value c.in-Some.ensures in
    told_all (IsTextOf IsListenText) _ c.deref-row-items.result.now c.rows.row-index c.rows.listen.items seen
    (take_all c.rows.row-index c.deref-row-items.result.now c.rows-test.false) c.rows.invariant
