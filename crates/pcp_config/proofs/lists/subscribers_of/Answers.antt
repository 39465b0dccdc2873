use Rattle.std.proofs.Common.{◌≡◌, Some, sym}
use Rattle.std.proofs.lemmas.List.{take_all}
use Rattle.toml.specs.Data.{as_array}
use Rattle.toml.specs.View.{items_view, view}
use Rattle.pcp_config.specs.ConfigTables.{IsSubscriberTable}
use Rattle.pcp_config.specs.TomlValues.{IsTableOf}
use Rattle.pcp_config.proofs.ListLemmas.{told_all, told_more, untold_row}
use Rattle.pcp_config.proofs.lists.subscribers_of.Goals as goal

pub returns-in_default-subscriber_of-clause-refused : goal.returns-in_default-subscriber_of-clause-refused
returns-in_default-subscriber_of-clause-refused c = λ _.
    let seen : Some (items_view c.deref-row-items.result.now) ≡ as_array (view c.args.value.now) = rw c.deref-row-items.ensures.value c.in-Some.ensures in
    untold_row (IsTableOf (IsSubscriberTable c.args.externals.now)) _ c.deref-row-items.result.now c.rows.row-index c.row-item.result seen c.rows-test.true (sym c.row-item.is)
    c.in_default-subscriber_of.ensures.none

pub rows-preserved : goal.rows-preserved
rows-preserved c =
    rw c.in_ok-push.ensures.items
    (told_more (IsTableOf (IsSubscriberTable c.args.externals.now)) c.deref-row-items.result.now c.rows.row-index c.row-item.result c.rows.subscribers.items _ c.rows-test.true (sym c.row-item.is)
    c.rows.invariant c.in-Some-subscriber_of.ensures.subscriber)

pub returns-clause-subscribers : goal.returns-clause-subscribers
returns-clause-subscribers c =
    let seen : Some (items_view c.deref-row-items.result.now) ≡ as_array (view c.args.value.now) = rw c.deref-row-items.ensures.value c.in-Some.ensures in
    told_all (IsTableOf (IsSubscriberTable c.args.externals.now)) _ c.deref-row-items.result.now c.rows.row-index c.rows.subscribers.items seen
    (take_all c.rows.row-index c.deref-row-items.result.now c.rows-test.false) c.rows.invariant
