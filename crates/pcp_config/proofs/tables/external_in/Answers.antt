use Rattle.pcp_config.proofs.TableLemmas.{high_untold}
use Rattle.pcp_config.proofs.tables.external_in.Goals as goal

pub returns-in_err-address-clause-none : goal.returns-in_err-address-clause-none
returns-in_err-address-clause-none c =
    rw c.from_residual.ensures (λ x h. c.in_err-address.ensures.none x.address h.address)

pub returns-in_err-low-clause-none : goal.returns-in_err-low-clause-none
returns-in_err-low-clause-none c =
    rw c.from_residual-in_err-low.ensures (λ x h. c.in_err-low.ensures.none x.low h.low)

pub returns-in_err-high-clause-none : goal.returns-in_err-high-clause-none
returns-in_err-high-clause-none c =
    rw c.from_residual-in_err-high.ensures (high_untold _ c.in_ok-low.low c.in_ok-low.ensures.number c.in_err-high.ensures.none)
