use Rattle.std.proofs.Common.{sym, arith}
use Rattle.pcp_config.proofs.PlaceLemmas.{index_found, index_missed, index_untold, index_within}
use Rattle.pcp_config.proofs.tables.index_of.Goals as goal

pub returns-in_err-address-clause-none : goal.returns-in_err-address-clause-none
returns-in_err-address-clause-none c =
    rw c.from_residual.ensures (index_untold _ _ c.in_err-address.ensures.none)

pub returns-in_err-index-clause-none : goal.returns-in_err-index-clause-none
returns-in_err-index-clause-none c =
    rw c.from_residual-in_err-index.ensures
    (index_missed _ _ c.in_ok-address.address c.in_ok-address.ensures.address (sym c.in_err-index.ensures))

pub overflow_cast-result : goal.overflow_cast-result
overflow_cast-result c =
    omega (arith, c.requires, index_within c.args.externals.now c.in_ok-address.address c.in_ok-index.index (sym c.in_ok-index.ensures))

pub returns-clause-index : goal.returns-clause-index
returns-clause-index c =
    index_found c.args.externals.now _ c.in_ok-address.address c.in_ok-index.index c.in_ok-address.ensures.address (sym c.in_ok-index.ensures)
