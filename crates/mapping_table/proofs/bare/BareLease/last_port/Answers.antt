use Rattle.std.proofs.Common.{refl, subst}
use Rattle.pcp_base.specs.declared.leases.MapLease.{MapLease}
use Rattle.ordered_index.specs.Orders.{port_at}
use Rattle.mapping_table.specs.Kept.{IsLastPort}
use Rattle.mapping_table.proofs.bare.BareLease.last_port.Goals as goal

pub returns : goal.returns
returns c = subst (λ (v : MapLease). IsLastPort v (port_at c.self.inside.protocol c.last_of.result)) c.self.view_is (record { protocol = refl; port = c.last_of.ensures })
