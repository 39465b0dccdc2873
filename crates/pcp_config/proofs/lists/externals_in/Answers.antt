use Rattle.std.proofs.Common.{codes, Err, sym, ap, arith}
use Rattle.toml.specs.View.{table_view}
use Rattle.pcp_config.specs.ConfigTables.{IsExternalTable}
use Rattle.pcp_config.specs.TomlValues.{IsListOf, IsTableOf}
use Rattle.pcp_config.proofs.ConfigLemmas.{length_at, not_different}
use Rattle.pcp_config.proofs.ValueLemmas.{untold_at, untrue}
use Rattle.pcp_config.proofs.lists.externals_in.Goals as goal

pub returns-in_err-externals-clause-refused : goal.returns-in_err-externals-clause-refused
returns-in_err-externals-clause-refused c = λ bad xs h.
    untold_at (table_view c.args.table.now) (codes "external") (IsListOf (IsTableOf IsExternalTable)) _ c.in-Some.ensures
    (let same = (rw bad at c.from_residual.ensures).1 in c.in_err-externals.ensures.refused (ap Err (sym same))) xs h.told

pub returns-then-not-is_count-clause-refused : goal.returns-then-not-is_count-clause-refused
returns-then-not-is_count-clause-refused c = λ _ xs h.
    let long = length_at (table_view c.args.table.now) (codes "external") (IsTableOf IsExternalTable) _ c.in_ok-externals.externals.items xs c.in-Some.ensures c.in_ok-externals.ensures.externals h.told in
    let fits = c.is_count.ensures.1 (omega (arith, long, h.some, c.len.ensures), omega (arith, long, h.few, c.len.ensures)) in
    untrue _ fits c.if-not-is_count.true

pub returns-then-not-are_different-clause-refused : goal.returns-then-not-are_different-clause-refused
returns-then-not-are_different-clause-refused c = λ _ xs h.
    not_different (table_view c.args.table.now) _ c.in_ok-externals.externals.items xs c.in-Some.ensures c.in_ok-externals.ensures.externals (λ e. untrue _ (c.are_different.ensures.1 (rw c.deref.ensures.value e)) c.if-not-are_different.true) h
