use Rattle.std.proofs.Common.{subst}
use Rattle.external_pool.specs.PortUses.{PortUses}
use Rattle.external_pool.specs.Choosing.{IsLongest}
use Rattle.external_pool.proofs.side.Side.longest.Goals as goal

pub returns-clause-longest : goal.returns-clause-longest
returns-clause-longest g c =
    let a = c.self.inside in
    subst (λ (uses : PortUses). IsLongest uses c.args.parity c.args.room c.longest.result) c.self.view_is
    (c.longest.ensures.longest a.low a.high a.each.items c.self.invariant)
