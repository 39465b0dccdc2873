use Rattle.std.proofs.Common.{Err, sym, ap}
use Rattle.toml.specs.View.{table_view}
use Rattle.pcp_config.proofs.ConfigLemmas.{max_untold, subscribers_untold}
use Rattle.pcp_config.proofs.texts.config_of.Goals as goal

pub returns-in_default-clause-refused : goal.returns-in_default-clause-refused
returns-in_default-clause-refused c = λ _ config h. c.in_default.ensures.none config.quota h.quota

pub returns-in_default-lifetime_min_in-clause-refused : goal.returns-in_default-lifetime_min_in-clause-refused
returns-in_default-lifetime_min_in-clause-refused c = λ _ config h.
    c.in_default-lifetime_min_in.ensures.none config.lifetime_min h.lifetime_min

pub returns-in_default-lifetime_max_in-clause-refused : goal.returns-in_default-lifetime_max_in-clause-refused
returns-in_default-lifetime_max_in-clause-refused c = λ _.
    max_untold (table_view c.args.table.now) c.in-Some-lifetime_min_in.lifetime_min c.in-Some-lifetime_min_in.ensures.number c.in_default-lifetime_max_in.ensures.none

pub returns-in_default-orders_in-clause-refused : goal.returns-in_default-orders_in-clause-refused
returns-in_default-orders_in-clause-refused c = λ _ config h. c.in_default-orders_in.ensures.none config.orders h.orders

pub returns-in_err-listen-clause-refused : goal.returns-in_err-listen-clause-refused
returns-in_err-listen-clause-refused c = λ bad config h.
    let same = (rw bad at c.from_residual-in_err-listen.ensures).1 in
    c.in_err-listen.ensures.refused (ap Err (sym same)) config.listen h.listen

pub returns-in_err-subscribers-clause-refused : goal.returns-in_err-subscribers-clause-refused
returns-in_err-subscribers-clause-refused c = λ bad.
    let same = (rw bad at c.from_residual-in_err-subscribers.ensures).1 in
    subscribers_untold (table_view c.args.table.now) c.in_ok-externals.externals.items c.in_ok-externals.ensures.externals
    (rw c.deref.ensures.value at c.in_err-subscribers.ensures.refused (ap Err (sym same)))
