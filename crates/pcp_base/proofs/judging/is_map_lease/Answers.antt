use Rattle.std.proofs.Common.{refl, sym, subst}
use Rattle.pcp_base.specs.Tables.{AreLeaseFilters}
use Rattle.pcp_base.proofs.judging.is_map_lease.Goals as goal

pub returns-then-has_ports : goal.returns-then-has_ports
returns-then-has_ports c =
    let same = c.items.ensures.value in (
      λ h. record { ports = c.if-has_ports.ensures.0 refl; filters = subst AreLeaseFilters same (c.are_lease_filters.ensures.0 h) },
      λ l. c.are_lease_filters.ensures.1 (subst AreLeaseFilters (sym same) l.filters),
    )
