use Rattle.std.proofs.Common.{[], codes, Err, sym, ap, arith}
use Rattle.toml.specs.View.{table_view}
use Rattle.pcp_config.specs.ConfigTables.{IsSubscriberTable}
use Rattle.pcp_config.specs.TomlValues.{IsListOf, IsTableOf}
use Rattle.pcp_config.proofs.ConfigLemmas.{length_or, untold_or}
use Rattle.pcp_config.proofs.lists.subscribers_in.Goals as goal

pub returns-in_err-subscribers-clause-refused : goal.returns-in_err-subscribers-clause-refused
returns-in_err-subscribers-clause-refused c = λ bad xs h.
    untold_or (table_view c.args.table.now) (codes "subscriber") [] (IsListOf (IsTableOf (IsSubscriberTable c.args.externals.now))) _ c.in-Some.ensures
    (let same = (rw bad at c.from_residual.ensures).1 in c.in_err-subscribers.ensures.refused (ap Err (sym same))) xs h.told

pub returns-then-len-gt-MOST_SUBSCRIBERS-clause-refused : goal.returns-then-len-gt-MOST_SUBSCRIBERS-clause-refused
returns-then-len-gt-MOST_SUBSCRIBERS-clause-refused c = λ _ xs h.
    let long = length_or (table_view c.args.table.now) (codes "subscriber") [] (IsTableOf (IsSubscriberTable c.args.externals.now)) _ c.in_ok-subscribers.subscribers.items xs c.in-Some.ensures c.in_ok-subscribers.ensures.subscribers h.told in
    omega (arith, long, h.few, c.len.ensures, c.if-len-gt-MOST_SUBSCRIBERS.true, c.in_ok-subscribers.subscribers.ok)
