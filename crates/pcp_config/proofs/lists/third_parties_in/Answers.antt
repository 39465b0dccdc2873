use Rattle.std.proofs.Common.{[], codes, Err, sym, ap, arith}
use Rattle.toml.specs.View.{table_view}
use Rattle.pcp_base.specs.AddressTexts.{IsPrefixText}
use Rattle.pcp_config.specs.TomlValues.{IsListOf, IsTextOf}
use Rattle.pcp_config.proofs.ConfigLemmas.{length_or, untold_or}
use Rattle.pcp_config.proofs.lists.third_parties_in.Goals as goal

pub returns-in_err-prefixes-clause-refused : goal.returns-in_err-prefixes-clause-refused
returns-in_err-prefixes-clause-refused c = λ bad xs h.
    untold_or (table_view c.args.table.now) (codes "third_party") [] (IsListOf (IsTextOf IsPrefixText)) _ c.in-Some.ensures
    (let same = (rw bad at c.from_residual.ensures).1 in c.in_err-prefixes.ensures.refused (ap Err (sym same))) xs h.told

pub returns-then-len-gt-MOST_THIRD_PARTIES-clause-refused : goal.returns-then-len-gt-MOST_THIRD_PARTIES-clause-refused
returns-then-len-gt-MOST_THIRD_PARTIES-clause-refused c = λ _ xs h.
    let long = length_or (table_view c.args.table.now) (codes "third_party") [] (IsTextOf IsPrefixText) _ _ xs c.in-Some.ensures c.in_ok-prefixes.ensures.prefixes h.told in
    omega (arith, long, h.few, c.len.ensures, c.if-len-gt-MOST_THIRD_PARTIES.true, c.in_ok-prefixes.prefixes.ok)
